-- What waits in the channels of a reached world, by the invariant of both directions.
use Rattle.std.proofs.Common.{◌≤◌, Some, arith}
use Rattle.law.specs.Link.{Frame, Chan, Collected, End, ack_of, next}
use Rattle.law.specs.Laws.{Truthful, Upto, WaitingFramesAreTrue}
use Rattle.law.proofs.Channels.{all_collected}
use Rattle.law.proofs.Half.{below_next}
use Rattle.law.proofs.Runs.{Both, swap, inv}

module _ {M St : Type 0} where
  truthful : {a b : End M St} {fw bw : Chan M} → Both a b fw bw → Truthful a fw
  truthful h = record { carried = h.go.carried; acknowledged = h.return.upto }

  -- what an end collects acknowledges no number that the end has not issued
  pub in_range : {a b : End M St} {fw bw c : Chan M} {f : Frame M} → Both a b fw bw → Collected bw (Some f) c → ack_of f ≤ next a
  in_range {b = b} h t = omega (arith, (all_collected (Upto b.expected) t h.go.upto).0, below_next h.go)

pub frames_true : (M C St : Type 0) → WaitingFramesAreTrue M C St
frames_true M C St app s p w r =
    let h = inv r in
    record {
      there_true = truthful h;
      back_true = truthful (swap h);
      there_issued = λ f c t. in_range (swap h) t;
      back_issued = λ f c t. in_range h t;
    }
