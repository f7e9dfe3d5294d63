-- A trailer back from its bytes, and what a fit one is.
use Rattle.std.proofs.Common.{◌≡◌, ℕ, ◌+◌, ◌*◌, true, ◌||◌, eqb, List, ◌++◌, length, get_or, take, drop, None, sym, refl, ap, ◌∙◌, arith}
use Rattle.std.proofs.lemmas.List.{length-append, take_at, append_cancel_left}
use Rattle.octets.specs.Numbers.{bytes_of, value}
use Rattle.octets.proofs.Widths.{value_bytes_of}
use Rattle.std.proofs.lemmas.Bool.Decides.{nat_tests}
use Rattle.frame.specs.declared.layout.Trailer.{Trailer}
use Rattle.frame.specs.Layout.{acknowledgement_fits, alone_tag, data_tag, number_fits, number_width, trailer_bytes, trailer_length, TypedTrailer, unfit_trailer, version_byte}

abbrev trailer_from : List ℕ → Trailer
trailer_from bs = record {
  number = value (take number_width bs);
  acknowledgement = value (take number_width (drop number_width bs));
  tag = get_or bs (2 * number_width) 0;
  version = get_or bs (2 * number_width + 1) 0;
  back = value (drop (2 * number_width + 2) bs);
}

from_bytes : (t : Trailer) → TypedTrailer t → trailer_from (trailer_bytes t) ≡ t
unfolding bytes_of
from_bytes t h = rw (value_bytes_of number_width t.number h.0, value_bytes_of number_width t.acknowledgement h.1, value_bytes_of 2 t.back h.2)

pub same_trailer : (t u : Trailer) → TypedTrailer t → TypedTrailer u → trailer_bytes t ≡ trailer_bytes u → t ≡ u
same_trailer t u h g e = sym (from_bytes t h) ∙ ap trailer_from e ∙ from_bytes u g

pub length_trailer : (t : Trailer) → length (trailer_bytes t) ≡ trailer_length
unfolding bytes_of
length_trailer t = refl

-- equal bytes that end in trailers have equal bodies and equal trailers
pub same_parts : (xs ys : List ℕ) (t u : Trailer) → TypedTrailer t → TypedTrailer u → xs ++ trailer_bytes t ≡ ys ++ trailer_bytes u → (xs ≡ ys) × (t ≡ u)
same_parts xs ys t u h g e =
    let a = length-append xs (trailer_bytes t) in
    let b = length-append ys (trailer_bytes u) in
    let len : length xs ≡ length ys = omega (arith, ap length e, length_trailer t, length_trailer u) in
    let front : xs ≡ ys = sym (take_at xs (trailer_bytes t) (length xs) refl) ∙ ap (take (length xs)) e ∙ take_at ys (trailer_bytes u) (length xs) (sym len) in
    (front, same_trailer t u h g (append_cancel_left xs (trailer_bytes t) (trailer_bytes u) (e ∙ ap (λ (l : List ℕ). l ++ trailer_bytes u) (sym front))))

pub record Fit (len : ℕ) (t : Trailer) : Type 0 where
  pub fits : number_fits t.tag t.number ≡ true
  pub acknowledgement : acknowledgement_fits t.acknowledgement ≡ true
  pub tag : (eqb t.tag data_tag || eqb t.tag alone_tag) ≡ true
  pub version : t.version ≡ version_byte
  pub back : t.back ≡ len

pub fit : (len : ℕ) (t : Trailer) → unfit_trailer len t ≡ None → Fit len t
fit len t e0 =
    record { fits = grind arith; acknowledgement = grind arith; tag = grind arith; version = grind (arith, nat_tests); back = grind (arith, nat_tests) }
