use Rattle.std.proofs.Common.{◌≡◌, ℕ, List, ◌++◌, length, take, refl, ap, ◌∙◌, arith}
use borrow.Rule.Slice.PartMut.{same_len_mid}
use Rattle.std.proofs.lemmas.Slice.{take-put_mid, drop-put_mid}
use Rattle.octets.proofs.put.Goals as goal

pub returns : goal.returns
returns c =
    let e = c.copy_from_slice.ensures.after in
    let l : length c.copy_from_slice.new.self ≡ length c.args.bytes.now = ap length e in
    let b = c.if-bytes-len.false in (
      λ room. record {
        place = refl;
        front = take-put_mid c.args.at _ c.args.buffer.now c.copy_from_slice.new.self _ (omega arith) (omega arith)
            ∙ ap (λ (l : List ℕ). take c.args.at c.args.buffer.now ++ l) e;
        rest = λ k h. drop-put_mid c.args.at _ c.args.buffer.now c.copy_from_slice.new.self k (omega arith) (omega arith) (omega arith);
        kept = same_len_mid c.args.at _ c.args.buffer.now c.copy_from_slice.new.self c.copy_from_slice.ensures.len;
      },
      λ none. let z : ⊥ = omega arith in absurd z,
    )
