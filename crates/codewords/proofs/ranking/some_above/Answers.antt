-- `any` looks at each length as the definition does.
use Rattle.std.proofs.Common.{leb, sym, ◌∙◌, rules, tests}
use Rattle.std.proofs.lemmas.Iterator.{YieldsList-from_slice}
use Rattle.std.proofs.lemmas.Iterator.Search.{any_from_yields_List}
use Rattle.codewords.proofs.RankLaws.{above-any}
use Rattle.codewords.proofs.ranking.some_above.Goals as goal

pub returns : goal.returns
returns c =
    let row = c.args.row.now in
    any_from_yields_List (leb c.args.width) _ _ _ c.any.ensures.ran (YieldsList-from_slice row cc) (λ x b q k. search (rules, tests))
    ∙ sym (above-any c.args.width row)
