-- What the link found when it gave a number.
use Rattle.std.proofs.Common.{◌≡◌, ℕ, ◌<◌, ◌≤◌, Some, None, Ok, Option, length, refl, arith}
use Rattle.std.proofs.lemmas.Grind.{common_steps}
use Rattle.message.specs.declared.Message.{Message}
use Rattle.message.specs.Ranges.{unfit_of}
use Rattle.frame.specs.Layout.{last_number}
use Rattle.link.specs.Fits.{window}
use Rattle.link.specs.Kept.{Kept, admits, admits_by, next_of}

pub record Admitted (k : Kept) (m : Message) (n : ℕ) : Type 0 where
  pub fit : unfit_of m ≡ None
  pub place : length k.pending < window
  pub number : next_of k ≤ last_number
  pub given : n ≡ next_of k

admitted_fit : (k : Kept) (m : Message) (n : ℕ) (o : Option ℕ) → unfit_of m ≡ o → admits_by o k ≡ Ok n → Admitted k m n
admitted_fit k m n (Some p) u h = grind arith
admitted_fit k m n None u h = grind (arith, common_steps)

pub admitted : (k : Kept) (m : Message) (n : ℕ) → admits k m ≡ Ok n → Admitted k m n
admitted k m n h = admitted_fit k m n (unfit_of m) refl h
