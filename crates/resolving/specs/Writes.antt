-- What is written of the rules' values, and where they refuse.
use Rattle.std.specs.Prelude.{ℕ, ◌≡◌, List, [], length, Result, Ok, Err}
use Rattle.tree.specs.Tree.{Field, field, Fields, encodes}
use Rattle.writer.specs.Wrote.{Wrote}
use Rattle.inputs.specs.Outcome.{Outcome, done, refused, onto}
use Rattle.tree.specs.declared.refused.Refused.{Refused}
use Rattle.resolving.specs.declared.specifiers.Why.{Why}
use Rattle.resolving.specs.Answer.{why_number}

-- why a list turns back, and at which field
abbrev pub Refusal : Type 0
Refusal = Refused Why

-- the position behind what was written, or a refusal
abbrev pub Step : Type 0
Step = Result ℕ Refusal

-- the rules give a value, and its bytes were written at o
pub record Put {A : Type 0} (bytes : A → List ℕ) (m : Outcome A) (l : List ℕ) (o : ℕ) (l' : List ℕ) (p : ℕ) : Type 0 where
  pub value : A
  pub is : m ≡ done value
  pub wrote : Wrote l o (bytes value) l' p

-- they do, or they refuse
pub record Puts {A : Type 0} (bytes : A → List ℕ) (m : Outcome A) (l : List ℕ) (o : ℕ) (l' : List ℕ) (k : Step) : Type 0 where
  pub size : length l' ≡ length l
  pub put : (p : ℕ) → k ≡ Ok p → Put bytes m l o l' p
  pub turned : (e : Refusal) → k ≡ Err e → m ≡ refused (why_number e.why) e.place

-- with the fields n that are left, from here on, all of m are written
pub record Onward (m n : Outcome Fields) (l : List ℕ) (o : ℕ) (l' : List ℕ) (p : ℕ) : Type 0 where
  pub size : length l' ≡ length l
  pub rest : {l'' : List ℕ} {k : Step} → Puts encodes n l' p l'' k → Puts encodes m l o l'' k

-- the 03 with these 90s
abbrev pub list_with : Outcome Fields → Outcome Field
list_with m = onto m (λ gs. done (field 0x03 [] gs))
