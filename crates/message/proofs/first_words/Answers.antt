-- Four words are the first 16 bytes.
use Rattle.std.proofs.Common.{◌≡◌, length, arith, rules}
use Rattle.message.proofs.DigestLaws.{number-of-words}
use Rattle.message.proofs.first_words.Goals as goal

pub returns : goal.returns
returns c =
    let long : length c.args.digest ≡ 32 = search rules in
    rw (c.word_at-4.ensures, c.word_at-3.ensures, c.word_at-2.ensures, c.word_at.ensures)
    (number-of-words c.args.digest (omega arith))
