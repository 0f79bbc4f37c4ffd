use Rattle.trace_text.proofs.Unique.{one_reading}
use Rattle.trace_text.proofs.laws.one_reading.Goals as goal

pub returns : goal.returns
returns c f most xs ys a b more after hx hy sa sb e =
    one_reading f most xs ys _ _ hx hy (λ s p h q. sa s p more h q) (λ s p h q. sb s p after h q) e
