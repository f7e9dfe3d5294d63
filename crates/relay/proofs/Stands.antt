-- What holds of every relay.
use Rattle.std.proofs.Common.{◌≡◌, ℕ, List, [], ◌∷◌, ◌++◌, length, take, drop, Some, sym, ap, ◌∙◌, inl, inr}
use Rattle.std.proofs.lemmas.List.{take_at}
use Rattle.refusal.specs.Numbers.{number_of}
use Rattle.carrier.specs.Means.{Fit, Means}
use Rattle.carrier.specs.Rules.{PostRefused, Taken}
use Rattle.carrier.proofs.Keep.{gathered_frame, plain_collect, plain_post}
use Rattle.relay.specs.Relays.{KeptOnlyWhenFull, MovedWithoutAFall, RelaysStand, WasFull, Went}

-- the frame that is posted is the frame that left
went : (ws : List (List ℕ)) (buffer : List ℕ) (n : ℕ) (rest : List (List ℕ)) (filled : List ℕ) (out₀ out₁ : List (List ℕ)) → Taken ws buffer (Some n) rest filled → out₁ ≡ out₀ ++ (take n filled ∷ []) → Went ws out₀ rest out₁
went [] buffer n rest filled out₀ out₁ t e = absurd t
went (f ∷ fs) buffer n rest filled out₀ out₁ t e =
    let same : take n filled ≡ f = ap (take n) t.2 ∙ take_at f (drop (length f) buffer) n (sym t.0) in
    record { frame = f; left = ap (λ (z : List (List ℕ)). f ∷ z) (sym t.1); joined = e ∙ ap (λ (z : List ℕ). out₀ ++ (z ∷ [])) same }

moved : MovedWithoutAFall
moved in₀ out₀ buffer n in₁ out₁ filled k e g =
    went in₀.waiting buffer n in₁.waiting filled out₀.waiting out₁.waiting (plain_collect in₀ buffer (Some n) in₁ filled k.0 e) (plain_post out₀ (take n filled) out₁ k.1 g)

was_full : (out₀ : Means) (frame : List ℕ) (number : ℕ) (out₁ : Means) → Fit frame → PostRefused out₀ frame number → out₁ ≡ out₀ → WasFull out₀ number out₁
was_full out₀ frame number out₁ fit (inl p) e = absurd (p.1 fit)
was_full out₀ frame number out₁ fit (inr p) e = record { refused = p.0; taken = p.2; same = e }

kept : KeptOnlyWhenFull
kept in₀ out₀ buffer n e in₁ out₁ filled s k = was_full out₀ (take n filled) (number_of e) out₁ (gathered_frame s k.0) k.1.0 k.1.1

pub relays_stand : RelaysStand
relays_stand = record { moved = moved; kept = kept }
