-- The trailer of a frame: its bytes and its ranges. Every number of the layout stands here once.
use Rattle.std.specs.Prelude.{ℕ, ◌+◌, ◌*◌, ◌^◌, ◌<◌, Bool, cond, ◌||◌, List, ◌∷◌, ◌++◌, None, Option, ◌==◌}
use Rattle.octets.specs.Numbers.{bytes_of}
use Rattle.message.specs.Ranges.{within, unless}
use Rattle.frame.specs.declared.layout.Trailer.{Trailer}

-- how many bytes the message number takes, and the acknowledgement likewise
abbrev pub number_width : ℕ
number_width = 4

-- number, acknowledgement, tag, version, back
abbrev pub trailer_length : ℕ
trailer_length = 2 * number_width + 4

-- the longest frame, and the shortest buffer that is written to
abbrev pub longest_frame : ℕ
longest_frame = 64

abbrev pub last_number : ℕ
last_number = 1000000

abbrev pub version_byte : ℕ
version_byte = 0x01

abbrev pub data_tag : ℕ
data_tag = 0x44

abbrev pub alone_tag : ℕ
alone_tag = 0x4B

-- the fields as they lie
abbrev pub trailer_bytes : Trailer → List ℕ
trailer_bytes t = bytes_of number_width t.number ++ (bytes_of number_width t.acknowledgement ++ (t.tag ∷ (t.version ∷ bytes_of 2 t.back)))

-- each field is within the bytes that it takes
abbrev pub TypedTrailer : Trailer → Type 0
TypedTrailer t = (t.number < 256 ^ number_width) × (t.acknowledgement < 256 ^ number_width) × (t.back < 256 ^ 2)

-- 0 with an acknowledgement alone, else the number of a message
abbrev pub number_fits : ℕ → ℕ → Bool
number_fits tag n = cond (tag == alone_tag) (n == 0) (within 1 last_number n)

-- the next number that the sender expects
abbrev pub acknowledgement_fits : ℕ → Bool
acknowledgement_fits a = within 1 (last_number + 1) a

-- the position in the trailer of the first unfit field, in a frame of len bytes
abbrev pub unfit_trailer : ℕ → Trailer → Option ℕ
unfit_trailer len t =
    unless (number_fits t.tag t.number) 0
    (unless (acknowledgement_fits t.acknowledgement) number_width
    (unless (t.tag == data_tag || t.tag == alone_tag) (2 * number_width)
    (unless (t.version == version_byte) (2 * number_width + 1)
    (unless (t.back == len) (2 * number_width + 2) None))))

-- the trailer of a data frame of len bytes, and of an acknowledgement alone
abbrev pub data_trailer : ℕ → ℕ → ℕ → Trailer
data_trailer len n a = record { number = n; acknowledgement = a; tag = data_tag; version = version_byte; back = len }

abbrev pub alone_trailer : ℕ → Trailer
alone_trailer a = record { number = 0; acknowledgement = a; tag = alone_tag; version = version_byte; back = trailer_length }
