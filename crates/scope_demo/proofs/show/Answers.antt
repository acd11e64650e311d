-- `show`: the contracts of `new` and `gen_id` turn each scope into the definition's modules, and so each answer is found by computation: no
-- request is refused (`given`), and the numbers are those that `prove!` compares (`numbered`).
use mathlib.Core.Path.{◌≡◌, refl, sym, ◌∙◌, ap}
use Prim.Native.Nat.{ℕ}
use native.Mathlib.Omega.{arith}
use Rattle.std.specs.Prelude.{Result, Ok, Err, None, IsOk}
use Rattle.scope.specs.declared.Numbers.{Numbers}
use Rattle.scope.specs.declared.TooManyFiles.{TooManyFiles}
use Rattle.scope.specs.Modules.{Generated, gen, request, number_of, place_of}
use Rattle.scope.specs.ScopeValue.{file_refusal, numbers_by}
use Rattle.scope_demo.proofs.show.Goals as goal

given : (a : Result Numbers TooManyFiles) → file_refusal a ≡ None → IsOk a
given (Ok n) e = refl
given (Err t) e = absurd (let z : ◌≡◌ {A = ℕ} 0 1 = cc in omega arith)

pub unwrap-first-requires : goal.unwrap-first-requires
unfolding gen request number_of place_of
unwrap-first-requires g c =
    let one = c.gen_id-own.ensures ∙ ap (gen (record { 0 = 9 })) c.new.ensures in
    given c.gen_id-own.result.answer (ap (λ (g : Generated). g.refusal) one)

pub unwrap-second-requires : goal.unwrap-second-requires
unfolding gen request number_of place_of
unwrap-second-requires g c =
    let one = c.gen_id-own.ensures ∙ ap (gen (record { 0 = 9 })) c.new.ensures in
    let two = c.gen_id-other.ensures ∙ ap (λ (g : Generated). gen (record { 0 = 10 }) g.modules) one in
    given c.gen_id-other.result.answer (ap (λ (g : Generated). g.refusal) two)

pub unwrap-third-requires : goal.unwrap-third-requires
unfolding gen request number_of place_of
unwrap-third-requires g c =
    let one = c.gen_id-own.ensures ∙ ap (gen (record { 0 = 9 })) c.new.ensures in
    let two = c.gen_id-other.ensures ∙ ap (λ (g : Generated). gen (record { 0 = 10 }) g.modules) one in
    let three = c.gen_id-again.ensures ∙ ap (λ (g : Generated). gen (record { 0 = 9 }) g.modules) two in
    given c.gen_id-again.result.answer (ap (λ (g : Generated). g.refusal) three)

pub prove-unreachable-requires : goal.prove-unreachable-requires
unfolding gen request number_of place_of
prove-unreachable-requires g c =
    let one = c.gen_id-own.ensures ∙ ap (gen (record { 0 = 9 })) c.new.ensures in
    c.if-prove.true (ap (λ r. (numbers_by r).export_ctxt.0) (sym c.unwrap-first.ensures) ∙ ap (λ (g : Generated). g.export_ctxt.0) one)

pub prove-unreachable-requires-2 : goal.prove-unreachable-requires-2
unfolding gen request number_of place_of
prove-unreachable-requires-2 g c =
    let one = c.gen_id-own.ensures ∙ ap (gen (record { 0 = 9 })) c.new.ensures in
    let two = c.gen_id-other.ensures ∙ ap (λ (g : Generated). gen (record { 0 = 10 }) g.modules) one in
    c.if-prove-2.true (ap (λ r. (numbers_by r).export_ctxt.0) (sym c.unwrap-second.ensures) ∙ ap (λ (g : Generated). g.export_ctxt.0) two)

pub prove-unreachable-requires-3 : goal.prove-unreachable-requires-3
unfolding gen request number_of place_of
prove-unreachable-requires-3 g c =
    let one = c.gen_id-own.ensures ∙ ap (gen (record { 0 = 9 })) c.new.ensures in
    let two = c.gen_id-other.ensures ∙ ap (λ (g : Generated). gen (record { 0 = 10 }) g.modules) one in
    let three = c.gen_id-again.ensures ∙ ap (λ (g : Generated). gen (record { 0 = 9 }) g.modules) two in
    c.if-prove-3.true (ap (λ r. (numbers_by r).id.0) (sym c.unwrap-third.ensures) ∙ ap (λ (g : Generated). g.id.0) three)
