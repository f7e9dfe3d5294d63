-- The table of eight, as a list.
use Rattle.std.proofs.Common.{◌≡◌, ℕ, ◌-◌, ◌≤◌, true, None, List, [], ◌∷◌, ◌++◌, length, take, drop, arith}
use Rattle.std.proofs.lemmas.List.{take-append-le, take-append-drop, drop-take, length-drop}
use Rattle.std.proofs.lemmas.List.Folds.{list_all-append}
use Rattle.std.proofs.lemmas.Bool.{and_parts}
use Rattle.message.specs.declared.Message.{Message}
use Rattle.message.specs.Ranges.{unfit_of}
use Rattle.link.specs.Fits.{message_fits, all_fit}

-- turning the table by g leaves the front without its first g
pub turned : (t : List Message) (c g : ℕ) → g ≤ c → c ≤ length t → take (c - g) (drop g t ++ take g t) ≡ drop g (take c t)
turned t c g h k = grind (arith, take-append-le (c - g) (drop g t) (take g t), drop-take g (c - g) t, length-drop g t)

pub fit_drop : (n : ℕ) (ms : List Message) → all_fit ms ≡ true → all_fit (drop n ms) ≡ true
fit_drop n ms h = grind (arith, list_all-append message_fits (take n ms) (drop n ms), take-append-drop n ms, and_parts (all_fit (take n ms)) (all_fit (drop n ms)))

pub fit_join : (ms : List Message) (m : Message) → all_fit ms ≡ true → unfit_of m ≡ None → all_fit (ms ++ (m ∷ [])) ≡ true
fit_join ms m h u = grind (arith, list_all-append message_fits ms (m ∷ []))
