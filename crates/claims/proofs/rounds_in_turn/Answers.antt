-- A desk that goes by rounds never signs before its store has ended.
use Rattle.claims.proofs.Rounds.{rounds_in_turn}
use Rattle.claims.proofs.rounds_in_turn.Goals as goal

pub returns : goal.returns
returns c = rounds_in_turn
