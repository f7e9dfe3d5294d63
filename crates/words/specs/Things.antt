-- Numbers, terms, rows and lots as words.
use Rattle.std.specs.Prelude.{ℕ, ℤ, List, Option, Result}
use Rattle.std.specs.Int.{w64}
use Rattle.std.specs.Str.Parse.{ExplainsSignedError, ExplainsUnsignedError, HasSignedDigitsIfOk, HasUnsignedDigitsIfOk, ParsesSigned, ParsesUnsigned}
use Rattle.std.specs.declared.num.ParseIntError.{ParseIntError}
use Rattle.amounts.specs.declared.lots.Lot.{Lot}
use Rattle.annex.specs.declared.row.Row.{Row}
use Rattle.annex.specs.declared.terms.Terms.{Terms}
use Rattle.words.specs.Words.{Gives, InARow, Number, Optional, Then}

-- what std parses a word of decimal digits to: without a sign, of this many bits
abbrev pub Unsigned : ℕ → List ℕ → Result ℕ ParseIntError → Type 0
Unsigned bits word parsed = ParsesUnsigned bits 10 word parsed × ExplainsUnsignedError 10 word parsed × HasUnsignedDigitsIfOk word parsed

-- with a sign or without one, of 64 bits
abbrev pub Signed : List ℕ → Result ℤ ParseIntError → Type 0
Signed word parsed = ParsesSigned w64 10 word parsed × ExplainsSignedError 10 word parsed × HasSignedDigitsIfOk word parsed

-- eight percentages, one to each class
abbrev pub Percentages : List ℕ → Option (List ℕ) → List ℕ → Type 0
Percentages = InARow (Number (Unsigned 32)) 8

-- eight prices, of which each may be absent
abbrev pub Prices : List ℕ → Option (List (Option ℕ)) → List ℕ → Type 0
Prices = InARow (Optional (Unsigned 32)) 8

-- the threshold, both minimum amounts, both independent amounts, and the percentages
abbrev pub TermsRead : List ℕ → Option Terms → List ℕ → Type 0
TermsRead =
    Then (Number (Unsigned 64)) (λ threshold.
    Then (Number (Unsigned 64)) (λ pledgor_minimum.
    Then (Number (Unsigned 64)) (λ secured_minimum.
    Then (Number (Unsigned 64)) (λ pledgor_independent.
    Then (Number (Unsigned 64)) (λ secured_independent.
    Then Percentages (λ percentages.
    Gives (record {
      threshold = threshold;
      pledgor_minimum = pledgor_minimum;
      secured_minimum = secured_minimum;
      pledgor_independent = pledgor_independent;
      secured_independent = secured_independent;
      percentages = percentages;
    })))))))

-- the day, the exposure and the prices
abbrev pub RowRead : List ℕ → Option Row → List ℕ → Type 0
RowRead =
    Then (Number (Unsigned 32)) (λ day.
    Then (Optional Signed) (λ exposure.
    Then Prices (λ prices.
    Gives (record { day = day; exposure = exposure; prices = prices }))))

-- the class and the face amount
abbrev pub LotRead : List ℕ → Option Lot → List ℕ → Type 0
LotRead =
    Then (Number (Unsigned 8)) (λ class.
    Then (Number (Unsigned 64)) (λ face.
    Gives (record { class = class; face = face })))
