-- How a refusal is shown, and the text of a refused call.
use Rattle.std.specs.Prelude.{ℕ, List, ◌∷◌, ◌++◌}
use Rattle.std.specs.Fmt.{decimal}
use Rattle.answer_text.specs.Left.{leftovers_text}
use Rattle.answer_text.specs.Modules.{scope_text}
use Rattle.answer_text.specs.declared.Refusal.{Refusal}

-- NUMBER PLACE
abbrev pub refusal_text : Refusal → List ℕ
refusal_text r = decimal r.number ++ 32 ∷ decimal r.place

-- WORD NUMBER PLACE SCOPE, of a call that leaves these buffers
abbrev pub refused_text : List ℕ → Refusal → List (List ℕ) → List ℕ → List ℕ
refused_text word r bs scope = word ++ 32 ∷ (refusal_text r ++ (leftovers_text bs ++ 32 ∷ scope_text scope))
