-- The text of answers to requests with a scope, by what the calls have left.
use Rattle.std.specs.Prelude.{ℕ, List, [], ◌∷◌, ◌++◌, codes, Result, Ok, Err}
use Rattle.text.specs.Hex.{spelt}
use Rattle.answer_text.specs.declared.Refusal.{Refusal}
use Rattle.answer_text.specs.Refusal.{refused_text}
use Rattle.answer_text.specs.Left.{shown}
use Rattle.answer_text.specs.Modules.{scope_text, behind_text}
use Rattle.scoped_requests.specs.declared.extracting.Extracted.{Extracted}
use Rattle.scoped_requests.specs.declared.listing.Resolved.{Resolved}

-- a buffer
abbrev pub left_text : List ℕ → List ℕ
left_text b = spelt (shown b)

-- WORK OUT RECORDS
abbrev pub extracted_text : Extracted → List ℕ
extracted_text l = left_text l.work.items ++ 32 ∷ (left_text l.out.items ++ 32 ∷ left_text l.records.items)

-- LIST
abbrev pub resolved_text : Resolved → List ℕ
resolved_text l = left_text l.list.items

-- WORD NUMBER PLACE SCOPE
abbrev pub extract_refused : List ℕ → Extracted → Refusal → List ℕ
extract_refused word l r = refused_text word r (l.work.items ∷ l.out.items ∷ l.records.items ∷ []) l.scope.0

abbrev pub resolve_refused : List ℕ → Resolved → Refusal → List ℕ
resolve_refused word l r = refused_text word r (l.list.items ∷ []) l.scope.0

-- `ok WORK OUT RECORDS SCOPE` or `no NUMBER PLACE SCOPE`
abbrev pub extract_by : Extracted → Result ℕ Refusal → List ℕ
extract_by l (Ok _) = codes "ok " ++ (extracted_text l ++ 32 ∷ scope_text l.scope.0)
extract_by l (Err r) = extract_refused (codes "no") l r

abbrev pub extract_text : Extracted → List ℕ
extract_text l = extract_by l l.outcome

-- `ok LIST SCOPE` or `no NUMBER PLACE SCOPE`
abbrev pub resolve_by : Resolved → Result ℕ Refusal → List ℕ
resolve_by l (Ok _) = codes "ok " ++ (resolved_text l ++ 32 ∷ scope_text l.scope.0)
resolve_by l (Err r) = resolve_refused (codes "no") l r

abbrev pub resolve_text : Resolved → List ℕ
resolve_text l = resolve_by l l.outcome

-- `ok WORK OUT RECORDS LIST SCOPE`, `no-extract NUMBER PLACE SCOPE` or `no-resolve NUMBER PLACE SCOPE`
abbrev pub both_by : Extracted → Resolved → Result ℕ Refusal → Result ℕ Refusal → List ℕ
both_by l n (Err r) _ = extract_refused (codes "no-extract") l r
both_by l n (Ok _) (Err r) = resolve_refused (codes "no-resolve") n r
both_by l n (Ok _) (Ok _) =
    codes "ok " ++ (extracted_text l ++ (behind_text l.scope.0 ++ 32 ∷ (resolved_text n ++ 32 ∷ scope_text n.scope.0)))

abbrev pub both_text : Extracted → Resolved → List ℕ
both_text l n = both_by l n l.outcome n.outcome
