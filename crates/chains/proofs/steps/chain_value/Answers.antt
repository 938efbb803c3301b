-- The value of a chain is a walk from the chain's start.
use Rattle.chains.proofs.ChainLaws.{value-at}
use Rattle.chains.proofs.steps.chain_value.Goals as goal

pub returns : goal.returns
returns c =
    let a = c.args in
    value-at a.hasher.domain a.leaf.0 a.chain.0 a.secret.now a.height c.chain_start-start.ensures c.walk.ensures.value
