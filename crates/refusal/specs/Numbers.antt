-- What each refusal tells: its number, its words and, of a frame fault, its layer, message and position.
use Rattle.std.specs.Prelude.{ℕ, List, ◌++◌, Some, None, codes, decimal, Option}
use Rattle.refusal.specs.declared.Layer.{Layer}
use Rattle.refusal.specs.declared.Layer.TheVariants as layer
use Rattle.refusal.specs.declared.Refusal.{Refusal}
use Rattle.refusal.specs.declared.Refusal.TheVariants.{FrameLength, Trailer, Body, Acknowledgement, Misfit, OtherEnd, CarrierFull, SmallBuffer, Opening, Lot, Day, Row, State, BelowAmount, WeighingDiffers, Unacknowledged, LastNumber}

-- the number of each refusal; where several apply, the least decides
abbrev pub number_of : Refusal → ℕ
number_of FrameLength = 1
number_of (Trailer p) = 2
number_of (Body m p) = 3
number_of (Acknowledgement m) = 4
number_of (Misfit m) = 5
number_of OtherEnd = 6
number_of CarrierFull = 7
number_of SmallBuffer = 8
number_of Opening = 9
number_of Lot = 10
number_of Day = 11
number_of Row = 12
number_of State = 13
number_of BelowAmount = 14
number_of WeighingDiffers = 15
number_of Unacknowledged = 16
number_of LastNumber = 17

-- a frame fault's layer: 1 and 2 the frame, 3 the message, 4 the link, 5 the annex
abbrev pub layer_of : Refusal → Option Layer
layer_of FrameLength = Some layer.Frame
layer_of (Trailer p) = Some layer.Frame
layer_of (Body m p) = Some layer.Message
layer_of (Acknowledgement m) = Some layer.Link
layer_of (Misfit m) = Some layer.Annex
layer_of OtherEnd = None
layer_of CarrierFull = None
layer_of SmallBuffer = None
layer_of Opening = None
layer_of Lot = None
layer_of Day = None
layer_of Row = None
layer_of State = None
layer_of BelowAmount = None
layer_of WeighingDiffers = None
layer_of Unacknowledged = None
layer_of LastNumber = None

-- the message that a fault speaks of: 3 to 5 have one
abbrev pub message_of : Refusal → Option ℕ
message_of FrameLength = None
message_of (Trailer p) = None
message_of (Body m p) = Some m
message_of (Acknowledgement m) = Some m
message_of (Misfit m) = Some m
message_of OtherEnd = None
message_of CarrierFull = None
message_of SmallBuffer = None
message_of Opening = None
message_of Lot = None
message_of Day = None
message_of Row = None
message_of State = None
message_of BelowAmount = None
message_of WeighingDiffers = None
message_of Unacknowledged = None
message_of LastNumber = None

-- the position in the frame of the first unfit field: 2 and 3 have one
abbrev pub position_of : Refusal → Option ℕ
position_of FrameLength = None
position_of (Trailer p) = Some p
position_of (Body m p) = Some p
position_of (Acknowledgement m) = None
position_of (Misfit m) = None
position_of OtherEnd = None
position_of CarrierFull = None
position_of SmallBuffer = None
position_of Opening = None
position_of Lot = None
position_of Day = None
position_of Row = None
position_of State = None
position_of BelowAmount = None
position_of WeighingDiffers = None
position_of Unacknowledged = None
position_of LastNumber = None

-- what a refusal says to a reader
abbrev pub words_for : Refusal → List ℕ
words_for FrameLength = codes "the frame's length is out of range"
words_for (Trailer p) = codes "a trailer field is unfit"
words_for (Body m p) = codes "the body's kind, length or a field is unfit"
words_for (Acknowledgement m) = codes "a number that was never issued is acknowledged"
words_for (Misfit m) = codes "the message does not fit the book"
words_for OtherEnd = codes "the call belongs to the other end"
words_for CarrierFull = codes "the carrier is full"
words_for SmallBuffer = codes "the buffer is under 64 bytes"
words_for Opening = codes "terms, places or script are out of range"
words_for Lot = codes "a lot, class or face is out of range, or the lot is in another state"
words_for Day = codes "the day is not later, or the last day has not ended"
words_for Row = codes "the row, exposure or a quote is absent, out of range or of another day"
words_for State = codes "the state of the day does not allow it"
words_for BelowAmount = codes "what was delivered is below the amount"
words_for WeighingDiffers = codes "weighing the row does not give the finding"
words_for Unacknowledged = codes "eight messages are unacknowledged"
words_for LastNumber = codes "the last message number has been issued"

-- a refusal on one line: its number and its words
abbrev pub line_of : Refusal → List ℕ
line_of r = decimal (number_of r) ++ (codes ": " ++ words_for r)

-- the word of each layer
abbrev pub layer_word : Layer → List ℕ
layer_word layer.Frame = codes "frame"
layer_word layer.Message = codes "message"
layer_word layer.Link = codes "link"
layer_word layer.Annex = codes "annex"
