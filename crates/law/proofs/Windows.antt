-- A window of 2C + 1 rounds in which no fault act happens clears the oldest message of each end.
use Rattle.std.proofs.Common.{◌≡◌, ℕ, suc, ◌+◌, ◌<◌, ◌≤◌, T, Some, List, length, slice_get, ap, subst, ◌⊎◌, inl, inr, arith}
use Rattle.std.proofs.lemmas.Bool.{cases_lt}
use Rattle.std.specs.List.{All}
use Rattle.std.proofs.lemmas.List.Elements.{All-weaker}
use Rattle.law.specs.Link.{App, Frame, message, alone, Chan, End, Turn, World}
use Rattle.law.specs.Laws.{Carries, Fitting, Upto, faults_of}
use Rattle.law.proofs.Half.{Half, next_is, below_next}
use Rattle.law.proofs.Turns.{moves, spent_in, spent_out}
use Rattle.law.proofs.Runs.{Both, swap, both_turn, Inv}
use Rattle.law.proofs.Calm.{calm_turn, Fine, Near, cleared, answered, flying, begun, sender_step, receiver_step, calm_room}
use Rattle.law.proofs.Keeping.{Kept, Steady, fitting_flip, kept_turn, kept_pair, kept_rounds, more, rest}

module _ {M : Type 0} where
  -- no acknowledgement that waits is above the next number of the end that it goes to
  upto_next : {b x : ℕ} {ps is bs : List M} {ws vs : List (Frame M)} → Half b ps is x bs ws vs → All (Upto (b + length ps)) vs
  upto_next {b} {x} {ps} {vs = vs} h = All-weaker (Upto x) (Upto (b + length ps)) (λ f l. omega (arith, below_next h)) vs h.upto

-- a message that waits and is expected fits
fine_all : {M C St : Type 0} (app : App M C St) (e : End M St) {b : ℕ} {ps is : List M} {ws vs : List (Frame M)} → ((m : M) → slice_get is (length e.booked) ≡ Some m → T (app.fits e.state m)) →
    Half b ps is e.expected e.booked ws vs → All (Fine app e) ws
fine_all {M} app e {is = is} {ws = ws} f h = All-weaker (Carries is) (Fine app e) one ws h.carried
  where
    one : (x : Frame M) → Carries is x → Fine app e x
    one (message n k m) c = λ q. f m (subst (λ j. slice_get is j ≡ Some m) (omega (arith, c.1, h.expected_is)) c.2)
    one (alone k) c = tt

module _ {M C St : Type 0} {app : App M C St} where
  -- one pair of turns without an act
  near_pair : {a a' b b' : End M St} {fw fw' fw'' bw bw' bw'' : Chan M} (n C j : ℕ) → Turn app a bw fw a' bw' fw' → Turn app b fw' bw' b' fw'' bw'' → Both a b fw bw →
      ((m : M) → slice_get b.issued (length a.booked) ≡ Some m → T (app.fits a.state m)) → ((m : M) → slice_get a'.issued (length b.booked) ≡ Some m → T (app.fits b.state m)) →
      fw.faults + bw.faults ≤ fw''.faults + bw''.faults → fw.places ≤ C → bw.places ≤ C →
      n ≤ a.base → n ≤ length a.issued → length fw.waiting < fw.places →
      Near n C (suc j) a.base fw.waiting bw.waiting →
      Near n C j a'.base fw''.waiting bw''.waiting × (length fw''.waiting < fw''.places)
  near_pair {a} {a'} {b} n C j t u h fa fb lf lp lq ln li lr near =
      let k = kept_turn t h in
      let both = k.kept_inv in
      let ct = calm_turn t (omega (arith, (spent_in u).faults, (spent_out u).faults)) in
      let cu = calm_turn u (omega (arith, k.forth.faults, k.back.faults)) in
      let m = sender_step ct (upto_next h.go) (fine_all app a fa h.return) ln (omega (arith, next_is both.go, ap length k.secured.issued)) lr lp near in
      let room = calm_room ct h.return_fit.fits h.return_fit.some_place in (
        receiver_step cu (upto_next both.return) (fine_all app b fb both.go) (omega (arith, k.secured.base, both.go.behind)) (omega (arith, room, k.back.places)) (omega (arith, k.back.places)) m,
        omega (arith, calm_room cu both.go_fit.fits both.go_fit.some_place, (spent_in u).places),
      )

module _ {M : Type 0} where
  near_zero : {n C b : ℕ} {fw bw : List (Frame M)} → 1 ≤ C → Near n C 0 b fw bw → n < b
  near_zero h (cleared l) = l
  near_zero h (answered i l s) = absurd (omega arith)
  near_zero h (flying i l s) = absurd (omega arith)
  near_zero h (begun l) = absurd (omega arith)

module _ {M C St : Type 0} {app : App M C St} where
  -- k rounds without an act clear a number that is at most k pairs of turns away
  near_rounds : {k : ℕ} {w v : World M St} (n C : ℕ) → Steady app k w v → Inv w → faults_of w ≤ faults_of v → w.forth.places ≤ C → w.back.places ≤ C →
      n ≤ w.secured.base → n ≤ length w.secured.issued → length w.forth.waiting < w.forth.places →
      Near n C k w.secured.base w.forth.waiting w.back.waiting → n < v.secured.base
  near_rounds n C rest h lf lp lq ln li lr near = near_zero (omega arith) near
  near_rounds n C (more {n = j} t u f g rs) h lf lp lq ln li lr near =
      let k = kept_pair t u h in
      let l = kept_rounds rs k.kept_inv in
      let r = near_pair n C j t u h f.back_fits g.there_fits (omega (arith, l.forth.faults, l.back.faults)) lp lq ln li lr near in
      near_rounds n C rs k.kept_inv (omega (arith, k.forth.faults, k.back.faults)) (omega (arith, k.forth.places)) (omega (arith, k.back.places))
      (omega (arith, k.secured.base)) (omega (arith, ap length k.secured.issued)) r.1 r.0

-- a round and k more as the pledgor end sees them: a turn of the other end, k whole rounds of its own, a last turn of its own
record Rotated {M C St : Type 0} (app : App M C St) (k : ℕ) (w v : World M St) : Type 0 where
  other : End M St
  gone : Chan M
  came : Chan M
  before : World M St
  first_turn : Turn app w.secured w.back w.forth other came gone
  middle : Steady app k (record { secured = w.pledgor; pledgor = other; forth = came; back = gone }) before
  last_turn : Turn app before.secured before.back before.forth v.pledgor v.forth v.back
  fits : Fitting app w

module _ {M C St : Type 0} {app : App M C St} where
  rotate : {k : ℕ} {w v : World M St} → Steady app (suc k) w v → Rotated app k w v
  rotate (more {s' = s} {p = p} {a' = a} {b' = b} t u f g rest) = record {
    other = s;
    gone = a;
    came = b;
    before = record { secured = p; pledgor = s; forth = b; back = a };
    first_turn = t;
    middle = rest;
    last_turn = u;
    fits = f;
  }
  rotate (more {s' = s} {a' = a} {b' = b} t u f g (more t' u' f' g' rs)) = let q = rotate (more t' u' f' g' rs) in record {
    other = s;
    gone = a;
    came = b;
    before = q.before;
    first_turn = t;
    middle = more u q.first_turn (fitting_flip g) (fitting_flip q.fits) q.middle;
    last_turn = q.last_turn;
    fits = f;
  }

module _ {M : Type 0} where
  -- the base rose and nothing was issued: fewer are unacknowledged
  shrinks : {b b' x x' k : ℕ} {ps ps' is is' bs bs' : List M} {ws ws' vs vs' : List (Frame M)} → Half b ps is x bs ws vs → Half b' ps' is' x' bs' ws' vs' →
      is' ≡ is → b < b' → length ps ≤ suc k → length ps' ≤ k
  shrinks h h' e l lk = omega (arith, next_is h, next_is h', ap length e)

module _ {M C St : Type 0} {app : App M C St} where
  -- the secured end's oldest message
  window_secured : {w v : World M St} (C : ℕ) → Steady app (suc (C + C)) w v → Inv w → faults_of w ≤ faults_of v → w.forth.places ≤ C → w.back.places ≤ C →
      1 ≤ length w.secured.pending → w.secured.base < v.secured.base
  window_secured C (more {s = s} t u f g rs) h lf lp lq l1 =
      let k1 = both_turn t h in
      let k = kept_pair t u h in
      let l = kept_rounds rs k.kept_inv in
      let cu = calm_turn u (omega (arith, (spent_in t).faults, (spent_out t).faults, l.forth.faults, l.back.faults)) in
      near_rounds s.base C rs k.kept_inv (omega (arith, k.forth.faults, k.back.faults)) (omega (arith, k.forth.places)) (omega (arith, k.back.places))
      k.secured.base (omega (arith, ap length k.secured.issued, next_is h.go))
      (omega (arith, calm_room cu k1.go_fit.fits k1.go_fit.some_place, (spent_in u).places)) (begun (omega arith))

  -- the pledgor end's
  window_pledgor : {w v : World M St} (C : ℕ) → Steady app (suc (C + C)) w v → Inv w → faults_of w ≤ faults_of v → w.forth.places ≤ C → w.back.places ≤ C →
      1 ≤ length w.pledgor.pending → w.pledgor.base < v.pledgor.base
  window_pledgor {w} {v} C rs h lf lp lq l1 =
      let q = rotate rs in
      let t = q.first_turn in
      let u = q.last_turn in
      let k = kept_turn t h in
      let k1 = swap k.kept_inv in
      let l = kept_rounds q.middle k1 in
      let ct = calm_turn t (omega (arith, (spent_in u).faults, (spent_out u).faults, l.forth.faults, l.back.faults)) in
      let b = near_rounds w.pledgor.base C q.middle k1 (omega (arith, k.forth.faults, k.back.faults, (spent_in u).faults, (spent_out u).faults)) (omega (arith, k.back.places)) (omega (arith, k.forth.places))
      (omega arith) (omega (arith, next_is h.return))
      (omega (arith, calm_room ct h.return_fit.fits h.return_fit.some_place, k.back.places)) (begun (omega arith)) in
      omega (arith, b, (moves u).base)

  -- a window without an act: one fewer at each end
  pub calm_window : {w v : World M St} (C k : ℕ) → Steady app (suc (C + C)) w v → Inv w → faults_of w ≤ faults_of v → w.forth.places ≤ C → w.back.places ≤ C →
      length w.secured.pending ≤ suc k → length w.pledgor.pending ≤ suc k →
      (length v.secured.pending ≤ k) × (length v.pledgor.pending ≤ k)
  calm_window {w} {v} C k rs h lf lp lq ls lt = (one (cases_lt 0 (length w.secured.pending)), two (cases_lt 0 (length w.pledgor.pending)))
    where
      kept : Kept w v
      kept = kept_rounds rs h

      one : (0 < length w.secured.pending) ⊎ (length w.secured.pending ≤ 0) → length v.secured.pending ≤ k
      one (inl y) = shrinks h.go kept.kept_inv.go kept.secured.issued (window_secured C rs h lf lp lq y) ls
      one (inr z) = omega (arith, kept.secured.fewer)

      two : (0 < length w.pledgor.pending) ⊎ (length w.pledgor.pending ≤ 0) → length v.pledgor.pending ≤ k
      two (inl y) = shrinks h.return kept.kept_inv.return kept.pledgor.issued (window_pledgor C rs h lf lp lq y) lt
      two (inr z) = omega (arith, kept.pledgor.fewer)
