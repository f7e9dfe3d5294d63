-- What every call of a channel keeps: a property of all waiting frames, the places, and that the frames fit them. The faults left never rise.
use Rattle.std.proofs.Common.{◌≡◌, ℕ, ◌≤◌, Option, IfSome, List, length, refl, ◌∙◌, arith, rules}
use Rattle.std.specs.List.{All}
use Rattle.std.proofs.lemmas.List.{length_push}
use Rattle.std.proofs.lemmas.List.Elements.{All-head, All-tail, All-nil, All-push}
use Rattle.law.specs.Link.{Frame, Chan, Act, lose, copy, move, Acts, done, again, Faulted, faulted, Posted, full, joined, Collected, nothing, first}
use Rattle.law.proofs.Lists.{all_takes, all_gives, length_takes}

all_act : {A : Type 0} (P : A → Type 0) {p : ℕ} {ws vs : List A} → Act p ws vs → All P ws → All P vs
all_act P (lose t) h = (all_takes P t h).1
all_act P (copy t r u) h = all_gives P u (all_takes P t h).0 h
all_act P (move t u) h = let r = all_takes P t h in all_gives P u r.0 r.1

all_acts : {A : Type 0} (P : A → Type 0) {p n : ℕ} {ws vs : List A} → Acts p n ws vs → All P ws → All P vs
all_acts P done h = h
all_acts P (again a r) h = all_acts P r (all_act P a h)

all_faulted : {M : Type 0} (P : Frame M → Type 0) {c d : Chan M} → Faulted c d → All P c.waiting → All P d.waiting
all_faulted P (faulted r l) h = all_acts P r h

pub all_posted : {M : Type 0} (P : Frame M → Type 0) {f : Frame M} {c d : Chan M} → Posted f c d → P f → All P c.waiting → All P d.waiting
all_posted P (full e) p h = h
all_posted P {f} (joined {c = c} r t) p h = all_faulted P t (All-push P c.waiting f h p)

pub all_collected : {M : Type 0} (P : Frame M → Type 0) {c d : Chan M} {x : Option (Frame M)} → Collected c x d → All P c.waiting → IfSome x P × All P d.waiting
all_collected P (nothing t) h = (tt, All-nil P)
all_collected P (first {f = f} {ws = ws} t) h = let k = all_faulted P t h in (All-head P f ws k, All-tail P f ws k)

-- a channel has a place, and its frames fit
pub record Fit {M : Type 0} (c : Chan M) : Type 0 where
  pub some_place : 1 ≤ c.places
  pub fits : length c.waiting ≤ c.places

fit_act : {A : Type 0} {p : ℕ} {ws vs : List A} → Act p ws vs → length ws ≤ p → length vs ≤ p
fit_act (lose t) h = omega (arith, length_takes t)
fit_act (copy t r u) h = omega (arith, length_takes u)
fit_act (move t u) h = omega (arith, length_takes t, length_takes u)

fit_acts : {A : Type 0} {p n : ℕ} {ws vs : List A} → Acts p n ws vs → length ws ≤ p → length vs ≤ p
fit_acts done h = h
fit_acts (again a r) h = fit_acts r (fit_act a h)

-- what becomes of a channel: the faults left never rise, and the places stay
pub record Spent {M : Type 0} (c d : Chan M) : Type 0 where
  pub faults : d.faults ≤ c.faults
  pub places : d.places ≡ c.places
  pub fit : Fit c → Fit d

pub spent_same : {M : Type 0} (c : Chan M) → Spent c c
spent_same c = search rules

pub spent_both : {M : Type 0} {c d e : Chan M} → Spent c d → Spent d e → Spent c e
spent_both s t = record { faults = omega (arith, s.faults, t.faults); places = t.places ∙ s.places; fit = λ h. t.fit (s.fit h) }

spent_faulted : {M : Type 0} {c d : Chan M} → Faulted c d → Spent c d
spent_faulted (faulted r l) = record { faults = omega arith; places = refl; fit = λ h. record { some_place = h.some_place; fits = fit_acts r h.fits } }

pub spent_posted : {M : Type 0} {f : Frame M} {c d : Chan M} → Posted f c d → Spent c d
spent_posted {c = c} (full e) = spent_same c
spent_posted {f = f} (joined {c = c} r t) =
    let s = spent_faulted t in
    record { faults = s.faults; places = s.places; fit = λ h. s.fit (record { some_place = h.some_place; fits = omega (arith, length_push c.waiting f) }) }

pub spent_collected : {M : Type 0} {c d : Chan M} {x : Option (Frame M)} → Collected c x d → Spent c d
spent_collected (nothing t) = spent_faulted t
spent_collected (first t) =
    let s = spent_faulted t in
    record { faults = s.faults; places = s.places; fit = λ h. let k = s.fit h in record { some_place = k.some_place; fits = omega (arith, k.fits) } }
