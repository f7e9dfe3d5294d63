-- A round can always be made: the law over rounds speaks of something.
use Rattle.std.proofs.Common.{◌≡◌, ℕ, ◌<◌, ◌≤◌, Bool, true, false, T, Some, None, Option, List, [], ◌∷◌, ◌++◌, length, ◌⊎◌, inl, inr, arith}
use Rattle.std.proofs.lemmas.Bool.{cases_lt, cases_eq}
use Rattle.law.specs.Link.{App, Frame, message, alone, ack_of, Chan, End, next, offer, done, faulted, Posted, full, joined, Collected, nothing, first, Heard, silent, declined, acknowledged, accepted, misfit, dropped, Turn, turn, round}
use Rattle.law.specs.Laws.{ARoundCanBeMade}
use Rattle.law.proofs.Channels.{Fit}
use Rattle.law.proofs.Runs.{both_turn, inv}

module _ {M : Type 0} where
  collects : (ws : List (Frame M)) (p g : ℕ) → (x : Option (Frame M)) × (d : Chan M) × Collected (record { waiting = ws; places = p; faults = g }) x d
  collects [] p g = (None, record { waiting = []; places = p; faults = g }, nothing (faulted done (omega arith)))
  collects (f ∷ ws) p g = (Some f, record { waiting = ws; places = p; faults = g }, first (faulted done (omega arith)))

  posts : (f : Frame M) (c : Chan M) → Fit c → (d : Chan M) × Posted f c d
  posts f c h = go (cases_lt (length c.waiting) c.places)
    where
      go : (length c.waiting < c.places) ⊎ (c.places ≤ length c.waiting) → (d : Chan M) × Posted f c d
      go (inl y) = (record { waiting = c.waiting ++ (f ∷ []); places = c.places; faults = c.faults }, joined y (faulted done (omega arith)))
      go (inr z) = (c, full (omega (arith, h.fits)))

cases_t : (b : Bool) → T b ⊎ (T b → ⊥)
cases_t true = inl tt
cases_t false = inr (λ t. t)

module _ {M C St : Type 0} (app : App M C St) where
  hears_message : (e : End M St) (n k : ℕ) (m : M) → k ≤ next e → (d : End M St) × Heard app e (Some (message n k m)) d
  hears_message e n k m l = go (cases_eq n e.expected) (cases_t (app.fits e.state m))
    where
      go : (n ≡ e.expected) ⊎ (n ≡ e.expected → ⊥) → T (app.fits e.state m) ⊎ (T (app.fits e.state m) → ⊥) → (d : End M St) × Heard app e (Some (message n k m)) d
      go (inl q) (inl y) = (_, accepted l q y)
      go (inl q) (inr z) = (_, misfit l q z)
      go (inr z) d = (_, dropped l z)

  hears_frame : (e : End M St) (f : Frame M) → (next e < ack_of f) ⊎ (ack_of f ≤ next e) → (d : End M St) × Heard app e (Some f) d
  hears_frame e f (inl y) = (e, declined y)
  hears_frame e (message n k m) (inr z) = hears_message e n k m z
  hears_frame e (alone k) (inr z) = (_, acknowledged z)

  hears : (e : End M St) (x : Option (Frame M)) → (d : End M St) × Heard app e x d
  hears e None = (e, silent)
  hears e (Some f) = hears_frame e f (cases_lt (next e) (ack_of f))

  turns : (e : End M St) (i o : Chan M) → Fit o → (d : End M St) × (j : Chan M) × (u : Chan M) × Turn app e i o d j u
  turns e i o h =
      let c = collects i.waiting i.places i.faults in
      let r = hears e c.0 in
      let p = posts (offer r.0) o h in
      (r.0, c.1, p.0, turn c.2 r.1 p.1)

pub goes : (M C St : Type 0) → ARoundCanBeMade M C St
goes M C St app s p w r =
    let h = inv r in
    let t = turns app w.secured w.back w.forth h.go_fit in
    let k = both_turn t.3 h in
    let u = turns app w.pledgor t.2 t.1 k.return_fit in
    (record { secured = t.0; pledgor = u.0; forth = u.1; back = u.2 }, round t.3 u.3)
