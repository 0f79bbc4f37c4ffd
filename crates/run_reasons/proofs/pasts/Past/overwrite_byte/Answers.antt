use Rattle.std.proofs.Common.{◌≡◌, ℕ, true, cond, ap, sym, ◌∙◌}
use Rattle.flat_model.specs.declared.Lanes.{Lanes}
use Rattle.flat_model.specs.declared.Word.{Word}
use Rattle.flat_model.specs.Words.{Lane, byte, has}
use Rattle.run_reasons.specs.declared.origins.Stores.{Stores}
use Rattle.run_reasons.specs.Pasts.{PastOf, kept, lane_of, line_of, value_key, with_past, overwritten_at}
use Rattle.run_reasons.proofs.pasts.Past.overwrite_byte.Goals as goal

-- the value of a byte among the lanes was noted as overwritten
byte_noted : (n : ℕ) (lanes : Lanes) (at : ℕ) (word : Word) (stores : Stores) (lane : Lane) (past next : PastOf) (key value put : ℕ)
    → has lanes lane ≡ true → value ≡ byte word lane → key ≡ value_key at lane value → put ≡ line_of stores lane
    → next ≡ with_past past key (record { put = put; by = n }) → next ≡ overwritten_at n lanes at word stores lane past
unfolding overwritten_at
byte_noted n lanes at word stores lane past next key value put among is_value is_key is_put made =
    let whole = with_past past _ (record { put = line_of stores lane; by = n }) in
    made ∙ ap (λ k. with_past past k (record { put = put; by = n })) (is_key ∙ ap (value_key at lane) is_value)
    ∙ ap (λ p. with_past past (value_key at lane (byte word lane)) (record { put = p; by = n })) is_put
    ∙ sym (ap (λ t. cond t whole past) among)

pub returns-then-is_in-clause-past : goal.returns-then-is_in-clause-past
returns-then-is_in-clause-past c =
    byte_noted c.args.line c.args.lanes c.args.at c.args.word c.args.stores (lane_of c.args.byte)
    (kept c.args.self.now) _ c.value_key-key.result c.of.result c.line-put.result
    (sym c.is_in.ensures ∙ c.if-is_in.true) c.of.ensures c.value_key-key.ensures c.line-put.ensures c.note.ensures.past
