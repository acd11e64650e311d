-- The packed grammar says what the grammar says: this is computed for each of the 256 tags, of its bits against the 32 numbers of sets and of
-- its rule. Without its lowest byte a packed rule is the rule without its first slot; so what it says to a tag, and whether it lacks a part,
-- is told by its lowest byte or by what is left of it.
use Rattle.std.specs.Prelude.{Some, None}
use Prim.Native.Nat.{ℕ, suc, ◌-◌, ◌/◌, ◌%◌, ◌^◌, ◌≤◌, ◌<◌}
use mathlib.Core.Path.{◌≡◌, refl, sym, ap, ◌∙◌}
use mathlib.Core.Bool.{Bool, true, false, ◌&&◌, cond}
use native.Mathlib.Omega.{arith}
use lib.Dec.{ltb, eqb}
use borrow.Author.Tests.{lt-ltb, le-ltb, eq-eqb, ne_eqb}
use Rattle.tree.specs.declared.grammar.Set.{Set}
use Rattle.tree.specs.declared.grammar.Set.TheVariants.{Module}
use Rattle.tree.specs.declared.grammar.Slot.{Slot}
use Rattle.tree.specs.declared.grammar.Slot.TheVariants.{Nothing}
use Rattle.tree.specs.declared.grammar.Rule.{Rule}
use Rattle.tree.specs.declared.grammar.Fit.{Fit}
use Rattle.tree.specs.declared.grammar.Fit.TheVariants.{Stay, Used, Over, No}
use Rattle.tree.specs.Grammar.{find, within, holds_at, rule_of, parts0, parts4, rest_of, on_fit, slot_at, step_by, step_at, full_at, done_at}
use Rattle.tree.specs.Packed.{set_numbers, unpack_set, unpack_slot, unpack_rule, entry_at, sets_at, packed_rule_at}
use Rattle.tree.specs.Read.{top}
use Rattle.tree.proofs.Table.{AllBelow, each, all_below, below}

-- ---- The tables

agree : Bool → Bool → Bool
agree true b = b
agree false b = cond b false true

agree-true : (a b : Bool) → agree a b ≡ true → b ≡ a
unfolding agree
agree-true true b e = e
agree-true false true e = cc
agree-true false false e = refl

-- bit i of n says whether t is in set i
bit_agrees : ℕ → ℕ → ℕ → Bool
bit_agrees t n i = agree (eqb (n / 2 ^ i % 2) 1) (holds_at (unpack_set i) t)

sets_agree : ℕ → Bool
sets_agree t = all_below (bit_agrees t (sets_at t)) 32

all-sets : all_below sets_agree 256 ≡ true
unfolding sets_agree bit_agrees agree sets_at entry_at holds_at unpack_set within
all-sets = refl

pub set-is : (t i : ℕ) → t < 256 → i < 32 → holds_at (unpack_set i) t ≡ eqb (sets_at t / 2 ^ i % 2) 1
unfolding sets_agree bit_agrees
set-is t i h l =
    agree-true (eqb (sets_at t / 2 ^ i % 2) 1) (holds_at (unpack_set i) t) (below (bit_agrees t (sets_at t)) 32 (below sets_agree 256 all-sets t h) i l)

-- rules are no numbers: the 256 tags are gone through sixteen at a time, each by computing
abbrev RuleAgrees : ℕ → Type 0
RuleAgrees t = unpack_rule (packed_rule_at t) ≡ rule_of t

abbrev four+ : ℕ → ℕ
four+ n = suc (suc (suc (suc n)))

abbrev Four : ℕ → Type 0 → Type 0
Four n R = RuleAgrees n → RuleAgrees (suc n) → RuleAgrees (suc (suc n)) → RuleAgrees (suc (suc (suc n))) → R

four : (n : ℕ) → AllBelow RuleAgrees n → Four n (AllBelow RuleAgrees (four+ n))
four n r a b c d = (d, (c, (b, (a, r))))

sixteen : (n : ℕ) → AllBelow RuleAgrees n →
    Four n (Four (four+ n) (Four (four+ (four+ n)) (Four (four+ (four+ (four+ n))) (AllBelow RuleAgrees (four+ (four+ (four+ (four+ n))))))))
sixteen n r a b c d e f g h i j k l m o p q =
    four (four+ (four+ (four+ n))) (four (four+ (four+ n)) (four (four+ n) (four n r a b c d) e f g h) i j k l) m o p q

all-rules : AllBelow RuleAgrees 256
unfolding packed_rule_at entry_at unpack_rule unpack_slot unpack_set rule_of within
all-rules =
    let r0 = sixteen 0 tt refl refl refl refl refl refl refl refl refl refl refl refl refl refl refl refl in
    let r1 = sixteen 16 r0 refl refl refl refl refl refl refl refl refl refl refl refl refl refl refl refl in
    let r2 = sixteen 32 r1 refl refl refl refl refl refl refl refl refl refl refl refl refl refl refl refl in
    let r3 = sixteen 48 r2 refl refl refl refl refl refl refl refl refl refl refl refl refl refl refl refl in
    let r4 = sixteen 64 r3 refl refl refl refl refl refl refl refl refl refl refl refl refl refl refl refl in
    let r5 = sixteen 80 r4 refl refl refl refl refl refl refl refl refl refl refl refl refl refl refl refl in
    let r6 = sixteen 96 r5 refl refl refl refl refl refl refl refl refl refl refl refl refl refl refl refl in
    let r7 = sixteen 112 r6 refl refl refl refl refl refl refl refl refl refl refl refl refl refl refl refl in
    let r8 = sixteen 128 r7 refl refl refl refl refl refl refl refl refl refl refl refl refl refl refl refl in
    let r9 = sixteen 144 r8 refl refl refl refl refl refl refl refl refl refl refl refl refl refl refl refl in
    let r10 = sixteen 160 r9 refl refl refl refl refl refl refl refl refl refl refl refl refl refl refl refl in
    let r11 = sixteen 176 r10 refl refl refl refl refl refl refl refl refl refl refl refl refl refl refl refl in
    let r12 = sixteen 192 r11 refl refl refl refl refl refl refl refl refl refl refl refl refl refl refl refl in
    let r13 = sixteen 208 r12 refl refl refl refl refl refl refl refl refl refl refl refl refl refl refl refl in
    let r14 = sixteen 224 r13 refl refl refl refl refl refl refl refl refl refl refl refl refl refl refl refl in
    let r15 = sixteen 240 r14 refl refl refl refl refl refl refl refl refl refl refl refl refl refl refl refl in
    r15

pub rule-is : (t : ℕ) → t < 256 → unpack_rule (packed_rule_at t) ≡ rule_of t
rule-is t h = each RuleAgrees 256 all-rules t h

-- ---- A packed rule, slot by slot

slot-none : unpack_slot 0 ≡ Nothing
unfolding unpack_slot
slot-none = refl

pub rest-by : (n : ℕ) → n < 2 ^ 32 → rest_of (unpack_rule n) ≡ unpack_rule (n / 256)
unfolding unpack_rule
rest-by n h =
    let z : n / 256 / 256 / 256 / 256 % 256 ≡ 0 = omega arith in
    ap (λ (x : Slot). parts4 (unpack_slot (n / 256 % 256)) (unpack_slot (n / 256 / 256 % 256)) (unpack_slot (n / 256 / 256 / 256 % 256)) x)
    (sym (ap unpack_slot z ∙ slot-none))

-- 32 and a set's number is the rule of one field of that set
pub root-is : (x : Set) (n : ℕ) → 32 ≤ n → n < 64 → x ≡ find (n - 32) set_numbers Module → unpack_rule n ≡ top x
unfolding unpack_rule unpack_slot unpack_set
root-is x n l h e =
    let a : n % 256 ≡ n = omega arith in
    let b : n % 32 ≡ n - 32 = omega arith in
    let z : n / 256 ≡ 0 = omega arith in
    rw (z, a, ne_eqb n 0 (λ k. omega arith), lt-ltb n 64 h, b, e)

pub step-next : (q : Rule) (t : ℕ) → step_at q t ≡ on_fit (slot_at q.first t) q (step_at (rest_of q) t)
unfolding step_at step_by slot_at
step-next q t = refl

pub rule-none : unpack_rule 0 ≡ parts0
unfolding unpack_rule unpack_slot
rule-none = refl

pub step-end : (t : ℕ) → step_at (unpack_rule 0) t ≡ None
unfolding step_at step_by slot_at unpack_rule unpack_slot
step-end t = refl

-- what the slot of a byte says, by the tests that the code makes
fit-nothing : (n t : ℕ) → n ≡ 0 → slot_at (unpack_slot n) t ≡ Over
unfolding unpack_slot slot_at
fit-nothing n t z = rw (eq-eqb n 0 z)

fit-by : (n t : ℕ) (b : Bool) → ltb n 64 ≡ b → (n ≡ 0 → ⊥) → holds_at (unpack_set (n % 32)) t ≡ true → n < 96 → slot_at (unpack_slot n) t ≡ Used
unfolding unpack_slot slot_at
fit-by n t true e z h l = rw (ne_eqb n 0 z, e, h)
fit-by n t false e z h l = rw (ne_eqb n 0 z, e, lt-ltb n 96 l, h)

fit-used : (n t : ℕ) → (n ≡ 0 → ⊥) → holds_at (unpack_set (n % 32)) t ≡ true → n < 96 → slot_at (unpack_slot n) t ≡ Used
fit-used n t z h l = fit-by n t (ltb n 64) refl z h l

fit-stay : (n t : ℕ) → holds_at (unpack_set (n % 32)) t ≡ true → 96 ≤ n → slot_at (unpack_slot n) t ≡ Stay
unfolding unpack_slot slot_at
fit-stay n t h l = rw (ne_eqb n 0 (λ z. omega arith), le-ltb n 64 (omega arith), le-ltb n 96 l, h)

fit-no : (n t : ℕ) → (n ≡ 0 → ⊥) → holds_at (unpack_set (n % 32)) t ≡ false → n < 64 → slot_at (unpack_slot n) t ≡ No
unfolding unpack_slot slot_at
fit-no n t z h l = rw (ne_eqb n 0 z, lt-ltb n 64 l, h)

fit-over : (n t : ℕ) → holds_at (unpack_set (n % 32)) t ≡ false → 64 ≤ n → (b : Bool) → ltb n 96 ≡ b → slot_at (unpack_slot n) t ≡ Over
unfolding unpack_slot slot_at
fit-over n t h l true e = rw (ne_eqb n 0 (λ z. omega arith), le-ltb n 64 l, e, h)
fit-over n t h l false e = rw (ne_eqb n 0 (λ z. omega arith), le-ltb n 64 l, e, h)

module _ (t n sets : ℕ) (byte : t < 256) (small : n < 2 ^ 32) (these : sets ≡ sets_at t) where
  step-by-fit : (f : Fit) → slot_at (unpack_slot (n % 256)) t ≡ f → step_at (unpack_rule n) t ≡ on_fit f (unpack_rule n) (step_at (unpack_rule (n / 256)) t)
  unfolding unpack_rule
  step-by-fit f e =
      step-next (unpack_rule n) t
      ∙ ap (λ (x : Fit). on_fit x (unpack_rule n) (step_at (rest_of (unpack_rule n)) t)) e
      ∙ ap (λ (q : Rule). on_fit f (unpack_rule n) (step_at q t)) (rest-by n small)

  holds-by-bit : holds_at (unpack_set (n % 256 % 32)) t ≡ eqb (sets / 2 ^ (n % 256 % 32) % 2) 1
  holds-by-bit =
      set-is t (n % 256 % 32) byte (omega arith) ∙ ap (λ (m : ℕ). eqb (m / 2 ^ (n % 256 % 32) % 2) 1) (sym these)

  holds-true : sets / 2 ^ (n % 256 % 32) % 2 ≡ 1 → holds_at (unpack_set (n % 256 % 32)) t ≡ true
  holds-true b = holds-by-bit ∙ eq-eqb (sets / 2 ^ (n % 256 % 32) % 2) 1 b

  holds-false : (sets / 2 ^ (n % 256 % 32) % 2 ≡ 1 → ⊥) → holds_at (unpack_set (n % 256 % 32)) t ≡ false
  holds-false b = holds-by-bit ∙ ne_eqb (sets / 2 ^ (n % 256 % 32) % 2) 1 b

  pub step-nothing : n % 256 ≡ 0 → step_at (unpack_rule n) t ≡ step_at (unpack_rule (n / 256)) t
  step-nothing z = step-by-fit Over (fit-nothing (n % 256) t z)

  pub step-used : (n % 256 ≡ 0 → ⊥) → sets / 2 ^ (n % 256 % 32) % 2 ≡ 1 → n % 256 < 96 → step_at (unpack_rule n) t ≡ Some (unpack_rule (n / 256))
  step-used z b l = step-by-fit Used (fit-used (n % 256) t z (holds-true b) l) ∙ ap Some (rest-by n small)

  pub step-stay : sets / 2 ^ (n % 256 % 32) % 2 ≡ 1 → 96 ≤ n % 256 → step_at (unpack_rule n) t ≡ Some (unpack_rule n)
  step-stay b l = step-by-fit Stay (fit-stay (n % 256) t (holds-true b) l)

  pub step-off : (n % 256 ≡ 0 → ⊥) → (sets / 2 ^ (n % 256 % 32) % 2 ≡ 1 → ⊥) → n % 256 < 64 → step_at (unpack_rule n) t ≡ None
  step-off z b l = step-by-fit No (fit-no (n % 256) t z (holds-false b) l)

  pub step-over : (sets / 2 ^ (n % 256 % 32) % 2 ≡ 1 → ⊥) → 64 ≤ n % 256 → step_at (unpack_rule n) t ≡ step_at (unpack_rule (n / 256)) t
  step-over b l = step-by-fit Over (fit-over (n % 256) t (holds-false b) l (ltb (n % 256) 96) refl)

-- ---- Whether a rule lacks a part

and-true : (b : Bool) → b && true ≡ b
and-true true = refl
and-true false = refl

done-next : (q : Rule) → done_at q ≡ full_at q.first && done_at (rest_of q)
done-next q =
    ap (λ (b : Bool). full_at q.first && (full_at q.second && (full_at q.third && b))) (sym (and-true (full_at q.fourth)))

pub done-end : done_at (unpack_rule 0) ≡ true
unfolding unpack_rule unpack_slot
done-end = refl

done-by : (n : ℕ) (b : Bool) → n < 2 ^ 32 → full_at (unpack_slot (n % 256)) ≡ b → done_at (unpack_rule n) ≡ b && done_at (unpack_rule (n / 256))
unfolding unpack_rule
done-by n b h e =
    done-next (unpack_rule n) ∙ ap (λ (x : Bool). x && done_at (rest_of (unpack_rule n))) e ∙ ap (λ (q : Rule). b && done_at q) (rest-by n h)

pub done-nothing : (n : ℕ) → n < 2 ^ 32 → n % 256 ≡ 0 → done_at (unpack_rule n) ≡ done_at (unpack_rule (n / 256))
unfolding unpack_slot
done-nothing n h z = done-by n true h (rw (eq-eqb (n % 256) 0 z))

pub done-lacks : (n : ℕ) → n < 2 ^ 32 → (n % 256 ≡ 0 → ⊥) → n % 256 < 64 → done_at (unpack_rule n) ≡ false
unfolding unpack_slot
done-lacks n h z l = done-by n false h (rw (ne_eqb (n % 256) 0 z, lt-ltb (n % 256) 64 l))

full-over : (n : ℕ) (b : Bool) → ltb n 96 ≡ b → 64 ≤ n → full_at (unpack_slot n) ≡ true
unfolding unpack_slot
full-over n true e l = rw (ne_eqb n 0 (λ z. omega arith), le-ltb n 64 l, e)
full-over n false e l = rw (ne_eqb n 0 (λ z. omega arith), le-ltb n 64 l, e)

pub done-over : (n : ℕ) → n < 2 ^ 32 → 64 ≤ n % 256 → done_at (unpack_rule n) ≡ done_at (unpack_rule (n / 256))
done-over n h l = done-by n true h (full-over (n % 256) (ltb (n % 256) 96) refl l)
