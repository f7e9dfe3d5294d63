-- That what a carrier of this crate means is well formed.
use Rattle.std.specs.Prelude.{◌≤◌, List, map, length, Some, None, Option, slice_index_or}
use Rattle.std.specs.List.{All}
use Rattle.std.specs.Option.{option_to_list}
use Rattle.std.proofs.Common.{arith}
use Rattle.std.proofs.lemmas.List.{length-take-le}
use Rattle.std.proofs.lemmas.List.Elements.{All-map}
use Rattle.carrier.specs.declared.frame.Frame.{Frame}
use Rattle.carrier.specs.declared.slip.Slip.{Slip}
use Rattle.carrier.specs.Held.{held}
use Rattle.carrier.specs.Means.{Fit, Sound}
use Rattle.carrier.specs.SlipMeans.{slip_means}

-- a frame holds 1 to 64 bytes, since its own invariant says so
pub frame_fits : (f : Frame) → Fit (held f)
frame_fits f =
    let e = length-take-le f.len f.bytes (omega (arith, f.whole, f.fits)) in
    (omega (arith, e, f.some), omega (arith, e, f.fits))

pub frames_fit : (fs : List Frame) → All Fit (map held fs)
frames_fit fs = All-map Fit held fs (λ k d h. frame_fits (slice_index_or fs k d))

few : (o : Option Frame) → length (map held (option_to_list o)) ≤ 1
few None = omega arith
few (Some f) = omega arith

pub slip_sound : (s : Slip) → Sound (slip_means s)
slip_sound s = record { frames = frames_fit (option_to_list s.waiting); some_place = omega arith; room = few s.waiting }
