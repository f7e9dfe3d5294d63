use Rattle.std.proofs.Common.{sym, ◌∙◌}
use Rattle.std.proofs.lemmas.Nat.{be_bytes_4}
use Rattle.octets.proofs.Fronts.{be_4, first_bytes}
use Rattle.octets.proofs.U32Octets.split.Goals as goal

pub returns : goal.returns
returns c =
    first_bytes 4 _ _ _ c.type_inv.bytes c.in_ok-front.ensures.cases _
    (λ len small. sym (be_4 _) ∙ be_bytes_4 c.in_ok-front.front.now _ len small c.from_be_bytes.ensures)
