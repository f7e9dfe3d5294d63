-- Enough rounds of bytes leave nothing unacknowledged, since the rounds of the law that shadow them do.
use Rattle.std.proofs.Common.{◌≡◌, ℕ, List, arith}
use Rattle.message.specs.declared.Message.{Message}
use Rattle.law.specs.Link.{App, Frame, again, done}
use Rattle.law.specs.Laws as over
use Rattle.law.proofs.Keeping.{Steady, more, rest}
use Rattle.law.proofs.Runs.{inv}
use Rattle.law.proofs.Settling.{settles_steadily}
use Rattle.runs.specs.Runs.{Reached, Rounds, World, pledgor_turns, round, secured_turns, stepped}
use Rattle.runs.specs.Laws.{AlwaysFitting, Fitting, RoundsLeaveNothingUnacknowledged, SettlesAfter, rounds_enough}
use Rattle.runs.proofs.Counting.{length_messages}
use Rattle.runs.proofs.Shadows.{Shadow, pledgor_after, pledgor_lift, secured_after, secured_lift, shadow, world_of}

fitting_law : {C St : Type 0} (app : App Message C St) (w : World St) (xs ys : List (Frame Message)) → Fitting app w → over.Fitting app (world_of w xs ys)
fitting_law app w xs ys f = record {
  there_fits = λ m a. f.there_fits m (rw (← length_messages w.pledgor.booked) a);
  back_fits = λ m a. f.back_fits m (rw (← length_messages w.secured.booked) a);
}

-- rounds of bytes, as rounds of the law, before each turn of which what is to be booked next fits
record RoundsLift {C St : Type 0} (app : App Message C St) (s p : St) (n : ℕ) (w v : World St) (h : Shadow app s p w) : Type 0 where
  end : Shadow app s p v
  does : Steady app n (world_of w h.there h.back) (world_of v end.there end.back)

module _ {C St : Type 0} {app : App Message C St} {s₀ p₀ : St} (f : AlwaysFitting app s₀ p₀) where
  rounds_lift : {n : ℕ} {w v : World St} → Reached app s₀ p₀ w → (h : Shadow app s₀ p₀ w) → Rounds app n w v → RoundsLift app s₀ p₀ n w v h
  rounds_lift r h done = record { end = h; does = rest }
  rounds_lift {v = v} r h (again (round t u) rs) =
      let k = secured_lift h t in
      let m = secured_after h k in
      let l = pledgor_lift m u in
      let b = stepped r (secured_turns t) in
      let z = rounds_lift (stepped b (pledgor_turns u)) (pledgor_after m l) rs in
      record { end = z.end; does = more {v = world_of v z.end.there z.end.back} k.does l.does (fitting_law app _ h.there h.back (f _ r)) (fitting_law app _ m.there m.back (f _ b)) z.does }

pub settles : (C St : Type 0) → RoundsLeaveNothingUnacknowledged C St
settles C St app s p f w v n r l rs =
    let h = shadow r in
    let k = rounds_lift f r h rs in
    settles_steadily (world_of w h.there h.back) (world_of v k.end.there k.end.back) (inv h.reached) l k.does

pub settles_after : (C St : Type 0) (faults places rounds : ℕ) → rounds ≡ rounds_enough faults places → SettlesAfter C St faults places rounds
settles_after C St faults places rounds e app s p f w v r a b rs =
    settles C St app s p f w v rounds r (rw (a, b, e) (omega arith)) rs
