-- After enough rounds nothing is unacknowledged, whatever the faults did: by windows, on faults left and messages left.
use Rattle.std.proofs.Common.{◌≡◌, ℕ, zero, suc, ◌+◌, ◌*◌, ◌<◌, ◌≤◌, length, ◌⊎◌, inl, inr, arith}
use Rattle.std.proofs.lemmas.Bool.{cases_lt}
use Rattle.std.proofs.lemmas.List.{nil_from_length}
use Rattle.law.specs.Link.{App, World, window}
use Rattle.law.specs.Laws.{RoundsLeaveNothingUnacknowledged, Settled, faults_of, places_of}
use Rattle.law.proofs.Runs.{Inv, inv}
use Rattle.law.proofs.Keeping.{Kept, Steady, kept_rounds, more, rest, steady}
use Rattle.law.proofs.Windows.{calm_window}

record Split {M C St : Type 0} (app : App M C St) (m r : ℕ) (w v : World M St) : Type 0 where
  between : World M St
  left : ℕ
  front : Steady app m w between
  after : Steady app left between v
  total : m + left ≡ r

module _ {M C St : Type 0} {app : App M C St} where
  split : (m : ℕ) {r : ℕ} {w v : World M St} → Steady app r w v → m ≤ r → Split app m r w v
  split zero {r} {w} {v} rs l = record { between = w; left = r; front = rest; after = rs; total = omega arith }
  split (suc m) rest l = absurd (omega arith)
  split (suc m) (more t u f g rs) l = let q = split m rs (omega arith) in record {
    between = q.between;
    left = q.left;
    front = more t u f g q.front;
    after = q.after;
    total = omega (arith, q.total);
  }

  idle : {r : ℕ} {w v : World M St} → Steady app r w v → Inv w → length w.secured.pending ≤ 0 → length w.pledgor.pending ≤ 0 → Settled v
  idle {v = v} rs h ls lt = let k = kept_rounds rs h in
      (nil_from_length v.secured.pending (omega (arith, k.secured.fewer)), nil_from_length v.pledgor.pending (omega (arith, k.pledgor.fewer)))

  -- N bounds the faults left and the number of unacknowledged messages together
  settle : (N k C : ℕ) {r : ℕ} {w v : World M St} → Steady app r w v → Inv w → w.forth.places ≤ C → w.back.places ≤ C → faults_of w + k ≤ N →
      length w.secured.pending ≤ k → length w.pledgor.pending ≤ k → N * suc (C + C) ≤ r → Settled v
  settle zero k C rs h lp lq lN ls lt lr = idle rs h (omega arith) (omega arith)
  settle (suc N) zero C rs h lp lq lN ls lt lr = idle rs h ls lt
  settle (suc N) (suc k) C {r} {w} {v} rs h lp lq lN ls lt lr =
      let q = split (suc (C + C)) rs (omega arith) in
      let l = kept_rounds q.front h in
      step q l (λ j. settle N j C q.after l.kept_inv (omega (arith, l.forth.places)) (omega (arith, l.back.places))) (cases_lt (faults_of q.between) (faults_of w))
    where
      step : (q : Split app (suc (C + C)) r w v) → Kept w q.between →
          ((j : ℕ) → faults_of q.between + j ≤ N → length q.between.secured.pending ≤ j → length q.between.pledgor.pending ≤ j → N * suc (C + C) ≤ q.left → Settled v) →
          (faults_of q.between < faults_of w) ⊎ (faults_of w ≤ faults_of q.between) → Settled v
      step q l f (inl y) = f (suc k) (omega arith) (omega (arith, l.secured.fewer)) (omega (arith, l.pledgor.fewer)) (omega (arith, q.total))
      step q l f (inr z) = let b = calm_window C k q.front h z lp lq ls lt in f k (omega (arith, l.forth.faults, l.back.faults)) b.0 b.1 (omega (arith, q.total))

-- rounds in which what is to be booked next fits before every turn
pub settles_steadily : {M C St : Type 0} {app : App M C St} {n : ℕ} (w v : World M St) → Inv w → (faults_of w + window) * (2 * places_of w + 1) ≤ n → Steady app n w v → Settled v
settles_steadily {n = n} w v h l rs =
    settle (faults_of w + window) 8 (places_of w) rs h (omega arith) (omega arith) (omega arith) h.few h.few_back (omega arith)

pub settles : (M C St : Type 0) → RoundsLeaveNothingUnacknowledged M C St
settles M C St app s p f w v n r l rs = settles_steadily w v (inv r) l (steady f r rs)
