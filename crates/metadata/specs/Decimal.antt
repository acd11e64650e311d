-- Numbers as text, written and parsed. Document 01, 'Metadata and detection'.
use Rattle.std.specs.Prelude.{ℕ, zero, suc, ◌+◌, ◌-◌, ◌*◌, ◌/◌, ◌%◌, Bool, true, false, ◌&&◌, cond, List, [], ◌∷◌, ◌++◌, ltb, leb, eqb, Option, None, Some}

-- n in at most k digits: its own below 10, else those of n / 10 and the last one
unfoldable pub decimal_by : ℕ → ℕ → List ℕ
decimal_by zero n = []
decimal_by (suc k) n = elim (ltb n 10) [ true ↦ (48 + n) ∷ [] | false ↦ decimal_by k (n / 10) ++ ((48 + n % 10) ∷ []) ]

-- '(decimal)': without leading zeros; n has at most n + 1 digits
unfoldable pub decimal : ℕ → List ℕ
decimal n = decimal_by (suc n) n

abbrev pub is_digit : ℕ → Bool
is_digit b = leb 48 b && leb b 57

-- the number of the digits of a text, behind a number already read; none at any other byte
unfoldable pub number_from : ℕ → List ℕ → Option ℕ
number_from n [] = Some n
number_from n (b ∷ l) = cond (is_digit b) (number_from (n * 10 + (b - 48)) l) None

-- 'one or more digits'
unfoldable pub number : List ℕ → Option ℕ
number [] = None
number (b ∷ l) = number_from 0 (b ∷ l)

-- 'at most 4,294,967,295'
abbrev pub limited : Option ℕ → Option ℕ
limited None = None
limited (Some n) = cond (leb n 4294967295) (Some n) None

-- 'optional +'
unfoldable pub unsigned : List ℕ → List ℕ
unsigned [] = []
unsigned (b ∷ l) = cond (eqb b 43) l (b ∷ l)

-- 'parsable': 'optional +, one or more digits, at most 4,294,967,295'
unfoldable pub parsed : List ℕ → Option ℕ
parsed s = limited (number (unsigned s))
