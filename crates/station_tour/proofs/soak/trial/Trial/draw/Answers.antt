use Rattle.std.proofs.Common.{◌≡◌, ℕ, ◌*◌, ◌-◌, ◌^◌, ◌%◌, ◌≤◌, min, ap, ◌∙◌, subst, arith}
use Rattle.std.proofs.Math.Nat.{mul-le-mul, mul-mod_left}
use Rattle.station_tour.proofs.soak.trial.Trial.draw.Goals as goal
use Rattle.station_tour.proofs.soak.trial.Trial.draw.Goals.{then-one_in, else-one_in}

-- so many blocks, none of which is cut
whole_blocks : (blocks block words : ℕ) → 1 ≤ blocks → blocks ≤ 65_536 → 1 ≤ block → block ≤ 16 → words ≡ min (blocks * block) (2 ^ 32 - 1)
    → ((1 ≤ words) × (words ≤ 1_048_576)) × (words % block ≡ 0)
whole_blocks blocks block words some few filled small is =
    let least : 1 * 1 ≤ blocks * block = mul-le-mul some filled in
    let most : blocks * block ≤ 65_536 * 16 = mul-le-mul few small in
    let product : words ≡ blocks * block = omega arith in
    ((omega arith, omega arith), ap (λ n. n % block) product ∙ mul-mod_left blocks block)

pub returns-clause-range : goal.returns-clause-range
returns-clause-range c =
    let few : c.if-one_in.most_blocks ≤ 65_536 = elim c.if-one_in.branch [ then-one_in w ↦ omega arith | else-one_in w ↦ omega arith ] in
    let block = c.clamp-block_words.ensures in
    let blocks = c.between.ensures.most in
    let words = whole_blocks c.between.result c.clamp-block_words.result c.saturating_mul.result c.between.ensures.least (omega arith)
    (omega arith) (omega arith) c.saturating_mul.ensures in
    record {
      words = words.0;
      whole_blocks = words.1;
      sets = (c.between-2.ensures.least, c.between-2.ensures.most);
      banks = (c.between-banks.ensures.least, c.between-banks.ensures.most);
      bank_queue = (subst (λ n. n ≤ c.between-3.result) c.div_ceil.ensures c.between-3.ensures.least, c.between-3.ensures.most);
      write_queue = (c.between-4.ensures.least, c.between-4.ensures.most);
      replies = (c.between-5.ensures.least, c.between-5.ensures.most);
      ports = (c.between-6.ensures.least, c.between-6.ensures.most);
      journal = c.draw_limits-journal.ensures;
    }
