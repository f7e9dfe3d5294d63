-- The bytes of a frame, what reading bytes gives, and what writing leaves in a buffer.
use Rattle.std.specs.Prelude.{◌≡◌, ℕ, ◌+◌, ◌-◌, ◌<◌, ◌≤◌, true, false, ◌⊎◌, List, ◌++◌, length, take, drop, Some, None, Ok, Err, Result}
use Rattle.refusal.specs.declared.Refusal.{Refusal}
use Rattle.message.specs.declared.Message.{Message}
use Rattle.message.specs.Ranges.{within, unfit_of}
use Rattle.message.specs.Bodies.{body_of}
use Rattle.body.specs.Faults.{LengthFault, TrailerFault, BodyFault, BufferFault}
use Rattle.body.specs.Reading.{Unread}
use Rattle.frame.specs.declared.Frame.{Frame}
use Rattle.frame.specs.declared.Frame.TheVariants as frame
use Rattle.frame.specs.declared.Packet.{Packet}
use Rattle.frame.specs.declared.Packet.TheVariants.{Data, Acknowledgement}
use Rattle.frame.specs.declared.layout.Trailer.{Trailer}
use Rattle.frame.specs.Layout.{acknowledgement_fits, alone_tag, alone_trailer, data_tag, data_trailer, last_number, longest_frame, number_width, trailer_bytes, trailer_length, TypedTrailer, unfit_trailer}

-- the trailer of a message's frame
abbrev pub trailer_of : ℕ → ℕ → Message → Trailer
trailer_of n a m = data_trailer (length (body_of m) + trailer_length) n a

-- the bytes of a frame
abbrev pub written : Packet → List ℕ
written (Data n a m) = body_of m ++ trailer_bytes (trailer_of n a m)
written (Acknowledgement a) = trailer_bytes (alone_trailer a)

-- a frame that is fit to send
abbrev pub Sendable : Packet → Type 0
Sendable (Data n a m) = (within 1 last_number n ≡ true) × (acknowledgement_fits a ≡ true) × (unfit_of m ≡ None)
Sendable (Acknowledgement a) = acknowledgement_fits a ≡ true

-- bytes as a body and a trailer
abbrev pub Splits : List ℕ → List ℕ → Trailer → Type 0
Splits bs body t = (length bs ≤ longest_frame) × (bs ≡ body ++ trailer_bytes t) × TypedTrailer t

-- the body under this trailer is unfit at the position p: there is one under the tag of an acknowledgement alone, or it is no message's
abbrev pub BodyUnfit : Trailer → List ℕ → ℕ → Type 0
BodyUnfit t body p = ((t.tag ≡ alone_tag) × (0 < length body) × (p ≡ 0)) ⊎ ((t.tag ≡ data_tag) × Unread body p)

-- a trailer field is unfit, or else the body is
abbrev pub PartUnfit : ℕ → List ℕ → Trailer → Refusal → Type 0
PartUnfit len body t e =
    ((q : ℕ) × (unfit_trailer len t ≡ Some q) × TrailerFault (length body + q) e)
    ⊎ ((p : ℕ) × (unfit_trailer len t ≡ None) × BodyUnfit t body p × BodyFault t.number p e)

-- why bytes are not read, the first reason deciding: their length, then their parts
abbrev pub Refused : List ℕ → Refusal → Type 0
Refused bs e =
    (((length bs < trailer_length) ⊎ (longest_frame < length bs)) × LengthFault e)
    ⊎ ((body : List ℕ) × (t : Trailer) × Splits bs body t × PartUnfit (length bs) body t e)

-- what reading bytes gives: a frame that is written so, or why there is none
abbrev pub Reads : List ℕ → Result Packet Refusal → Type 0
Reads bs (Ok p) = (bs ≡ written p) × Sendable p
Reads bs (Err e) = Refused bs e

-- the same, with the body as a part of the lent bytes: all but the trailer
abbrev pub ReadsFrame : List ℕ → Result Frame Refusal → Type 0
ReadsFrame bs (Ok (frame.Data n a body)) =
    (body.now ≡ take (length bs - trailer_length) bs)
    × ((m : Message) × (body.now ≡ body_of m) × Reads bs (Ok (Data n a m)))
ReadsFrame bs (Ok (frame.Acknowledgement a)) = Reads bs (Ok (Acknowledgement a))
ReadsFrame bs (Err e) = Refused bs e

-- why a frame is not written into a buffer of this length, the first reason deciding
abbrev pub Unwritten : Packet → ℕ → Refusal → Type 0
Unwritten (Data n a m) room e =
    ((q : ℕ) × (unfit_trailer (length (body_of m) + trailer_length) (trailer_of n a m) ≡ Some q) × TrailerFault (length (body_of m) + q) e)
    ⊎ (((p : ℕ) × (unfit_trailer (length (body_of m) + trailer_length) (trailer_of n a m) ≡ None) × (unfit_of m ≡ Some p) × BodyFault n p e)
    ⊎ (Sendable (Data n a m) × (room < longest_frame) × BufferFault e))
Unwritten (Acknowledgement a) room e =
    ((acknowledgement_fits a ≡ false) × TrailerFault number_width e)
    ⊎ ((acknowledgement_fits a ≡ true) × (room < longest_frame) × BufferFault e)

-- what writing a frame answers and leaves: it fills the buffer's front and the rest stays, or nothing is written
abbrev pub Writes : Packet → List ℕ → List ℕ → Result ℕ Refusal → Type 0
Writes p before after (Ok len) = Sendable p × (longest_frame ≤ length before) × (len ≡ length (written p)) × (after ≡ written p ++ drop len before)
Writes p before after (Err e) = (after ≡ before) × Unwritten p (length before) e
