-- What every end keeps in range, so that what it posts can be read.
use Rattle.std.proofs.Common.{◌≡◌, ℕ, ◌-◌, ◌<◌, ◌≤◌, true, List, [], ◌∷◌, length, Some, None, Option, is_none, refl, arith, rules}
use Rattle.std.proofs.lemmas.List.{length-drop, length_push}
use Rattle.std.proofs.lemmas.Bool.{and_parts}
use Rattle.message.specs.declared.Message.{Message}
use Rattle.message.specs.Ranges.{unfit_of}
use Rattle.frame.specs.Layout.{last_number}
use Rattle.frame.specs.Packets.{Sendable}
use Rattle.link.specs.Fits.{message_fits, all_fit, window}
use Rattle.link.specs.Kept.{Kept, next_of, cleared, forgotten, awaited, joined, opened, offered, Ranged}
use Rattle.link.proofs.Tables.{fit_drop, fit_join}

none_of : (o : Option ℕ) → is_none o ≡ true → o ≡ None
none_of None e = refl
none_of (Some p) e = grind arith

pub ranged_opened : Ranged opened
ranged_opened = search rules

pub ranged_forget : (g : ℕ) (k : Kept) → g ≤ length k.pending → Ranged k → Ranged (forgotten g k)
ranged_forget g k l h = grind (arith, length-drop g k.pending, fit_drop g k.pending)

pub ranged_clear : (a : ℕ) (k : Kept) → a ≤ next_of k → Ranged k → Ranged (cleared a k)
ranged_clear a k l h = ranged_forget (a - k.base) k (omega arith) h

pub ranged_await : (k : Kept) → k.expected ≤ last_number → Ranged k → Ranged (awaited k)
ranged_await k l h = search rules

pub ranged_join : (k : Kept) (m : Message) → next_of k ≤ last_number → unfit_of m ≡ None → length k.pending < window → Ranged k → Ranged (joined k m)
ranged_join k m l u w h = grind (arith, length_push k.pending m, fit_join k.pending m)

offer_ranged : (b x : ℕ) (ms : List Message) → Ranged (record { base = b; pending = ms; expected = x }) → Sendable (offered (record { base = b; pending = ms; expected = x }))
offer_ranged b x [] h = grind arith
offer_ranged b x (m ∷ ms) h = grind (arith, none_of (unfit_of m), and_parts (message_fits m) (all_fit ms))

pub ranged_offer : (k : Kept) → Ranged k → Sendable (offered k)
ranged_offer k h = offer_ranged k.base k.expected k.pending h
