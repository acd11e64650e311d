-- The lent lists, and the tree: what each answer of `lists` says of the rules.
use Rattle.std.specs.Prelude.{Result, Ok, Err}
use Prim.Native.Nat.{ℕ, ◌≤◌, ◌<◌}
use native.Mathlib.Omega.{arith}
use mathlib.Core.Path.{◌≡◌, refl, sym, ap, subst, ◌∙◌}
use mathlib.Core.Bool.{Bool, true, false, ◌||◌, cond}
use mathlib.Core.List.{List}
use lib.Dec.{ltb}
use lib.ListN.{length}
use borrow.Author.Tests.{ltb-false, lt-ltb, le-ltb}
use Rattle.modes.specs.declared.Modes.{Modes}
use Rattle.modes.specs.Bits.{modes_of}
use Rattle.scope.specs.Modules.{Modules, request}
use Rattle.tree.specs.declared.grammar.Set.TheVariants.{Module}
use Rattle.tree.specs.Read.{Unread}
use Rattle.tree.specs.Tree.{Fields}
use Rattle.tree.specs.Read.{Reading, fine, refused as unread, read, verdict, refusal_of as read_refusal}
use Rattle.inputs.specs.Outcome.{Outcome, done, refused, onto, refuse_if}
use Rattle.inputs.specs.Table.{Row, rows_in, bad_externals, bad_table, repeats, table_of}
use Rattle.extraction_rules.specs.Call.{Lent, Lengths, Extracted, bad_lists, items_read, own_module, passes, extracted}
use Rattle.records.specs.Writes.{items_in}
use Rattle.extraction.specs.declared.ExtractError.{ExtractError}
use Rattle.extraction.specs.declared.ExtractError.TheVariants.{BadLists, NamedTwice, Unread as NoTree}
use Rattle.extraction.specs.Answer.{outcome_of, UnreadAs, lent_as}
use Rattle.extraction.specs.Stages.{read_as, lists_of}
use Rattle.extraction.proofs.ReadLaws.{module-items}

-- ---- 1

module _ (externals table tree : List ℕ) where
  pub bad-long : 32768 < length tree → true ≡ bad_lists (lent_as 0 (modes_of 0) externals table tree)
  unfolding bad_lists
  bad-long h = rw (lt-ltb 32768 (length tree) h)

  pub bad-first : {b : Bool} → length tree ≤ 32768 → b ≡ bad_externals externals → b ≡ true → true ≡ bad_lists (lent_as 0 (modes_of 0) externals table tree)
  unfolding bad_lists
  bad-first h e k = rw (le-ltb 32768 (length tree) h, sym e ∙ k)

  pub bad-second : {b c : Bool} → length tree ≤ 32768 → b ≡ bad_externals externals → b ≡ false → c ≡ bad_table table → c ≡ bad_lists (lent_as 0 (modes_of 0) externals table tree)
  unfolding bad_lists
  bad-second h e k d = rw (le-ltb 32768 (length tree) h, sym e ∙ k) d

or-first : (a b : Bool) → a || b ≡ false → a ≡ false
or-first false b e = refl
or-first true b e = e

most : (l : Lent) → bad_lists l ≡ false → length l.tree ≤ 32768
unfolding bad_lists
most l e =
    let long = ltb 32768 (length l.tree) in
    ltb-false 32768 (length l.tree) (or-first long (bad_externals l.externals) (or-first (long || bad_externals l.externals) (bad_table l.table) e))

or-second : (a b : Bool) → a || b ≡ false → b ≡ false
or-second false b e = e
or-second true b e = absurd (let z : ◌≡◌ {A = ℕ} 1 0 = ap (λ (c : Bool). cond c 1 0) e in omega arith)

few : (l : Lent) → bad_lists l ≡ false → (length l.externals ≤ 1024) × (length l.table ≤ 4096)
unfolding bad_lists bad_externals bad_table
few l e =
    let long = ltb 32768 (length l.tree) in
    let a = or-second long (bad_externals l.externals) (or-first (long || bad_externals l.externals) (bad_table l.table) e) in
    let b = or-second (long || bad_externals l.externals) (bad_table l.table) e in
    (ltb-false 1024 (length l.externals) (or-first _ _ a), ltb-false 4096 (length l.table) (or-first _ _ b))

-- ---- 1, 2, then reading

module _ (externals table tree : List ℕ) where
  abbrev lends : Lent
  lends = lent_as 0 (modes_of 0) externals table tree

  -- the answer by the three tests
  listed : (a b : Bool) (v : Result Unit Unread) → bad_lists lends ≡ a → repeats (rows_in table) ≡ b → verdict (read Module tree) ≡ v →
      lists_of lends ≡ cond a (Err BadLists) (cond b (Err NamedTwice) (read_as v))
  unfolding lists_of
  listed a b v e f q = rw (e, f, q)

  module _ {a : Bool} (bad : a ≡ bad_lists lends) where
    pub lists-bad : a ≡ true → Err BadLists ≡ lists_of lends
    lists-bad e = sym (listed true (repeats (rows_in table)) (verdict (read Module tree)) (sym bad ∙ e) refl refl)

    module _ {b : Bool} (twice : b ≡ repeats (rows_in table)) where
      pub lists-twice : a ≡ false → b ≡ true → Err NamedTwice ≡ lists_of lends
      lists-twice e f = sym (listed false true (verdict (read Module tree)) (sym bad ∙ e) (sym twice ∙ f) refl)

      module _ {v : Result Unit Unread} (is : v ≡ verdict (read Module tree)) (e : a ≡ false) (f : b ≡ false) where
        pub lists-read : v ≡ Ok tt → Ok tt ≡ lists_of lends
        lists-read q = sym (listed false false (Ok tt) (sym bad ∙ e) (sym twice ∙ f) (sym is ∙ q))

        pub lists-unread : {u : Unread} → v ≡ Err u → Err (NoTree u) ≡ lists_of lends
        lists-unread {u} q = sym (listed false false (Err u) (sym bad ∙ e) (sym twice ∙ f) (sym is ∙ q))

-- ---- The call up to the own file

module _ (l : Lent) (room : Lengths) (ms : Modules) where
  abbrev owning : List Row → Fields → Outcome Extracted
  owning rows items = onto (own_module (request l.file ms)) (passes l room rows items)

  abbrev reading : List Row → Outcome Extracted
  reading rows = onto (items_read (read Module l.tree)) (owning rows)

  called : extracted l room ms ≡ onto (refuse_if (bad_lists l) 1) (λ _. onto (refuse_if (repeats (rows_in l.table)) 2) (λ _. reading (rows_in l.table)))
  unfolding extracted table_of
  called = go (refuse_if (repeats (rows_in l.table)) 2)
    where
      go : (m : Outcome (Unit {0})) → onto (refuse_if (bad_lists l) 1) (λ _. onto (onto m (λ _. done (rows_in l.table))) reading)
          ≡ onto (refuse_if (bad_lists l) 1) (λ _. onto m (λ _. reading (rows_in l.table)))
      go (done a) = refl
      go (refused n p) = refl

  called-bad : bad_lists l ≡ true → extracted l room ms ≡ refused 1 0
  called-bad e = called ∙ ap (λ (b : Bool). onto (refuse_if b 1) (λ _. onto (refuse_if (repeats (rows_in l.table)) 2) (λ _. reading (rows_in l.table)))) e

  called-by : (c : Bool) → bad_lists l ≡ false → repeats (rows_in l.table) ≡ c → extracted l room ms ≡ onto (refuse_if c 2) (λ _. reading (rows_in l.table))
  called-by c e f =
      called ∙ ap (λ (b : Bool). onto (refuse_if b 1) (λ _. onto (refuse_if (repeats (rows_in l.table)) 2) (λ _. reading (rows_in l.table)))) e
      ∙ ap (λ (b : Bool). onto (refuse_if b 2) (λ _. reading (rows_in l.table))) f

  called-read : (m : Outcome Fields) → bad_lists l ≡ false → repeats (rows_in l.table) ≡ false → items_read (read Module l.tree) ≡ m →
      extracted l room ms ≡ onto m (owning (rows_in l.table))
  called-read m e f q = called-by false e f ∙ ap (λ (z : Outcome Fields). onto z (owning (rows_in l.table))) q

-- from the own file on
abbrev pub owned_by : Lent → Lengths → Modules → Outcome Extracted
owned_by l room ms = onto (own_module (request l.file ms)) (passes l room (rows_in l.table) (items_in l.tree))

-- what each answer says: the tree was read, or the rules refuse
abbrev pub Says : Lent → Lengths → Modules → Result Unit ExtractError → Type 0
Says l room ms (Ok u) =
    (extracted l room ms ≡ owned_by l room ms) × (length l.tree ≤ 32768) × (length l.externals ≤ 1024) × (length l.table ≤ 4096)
    × ((fs : Fields) × (read Module l.tree ≡ fine fs))
Says l room ms (Err e) = ((r : Extracted) → extracted l room ms ≡ outcome_of (Err e) r) × UnreadAs (Err e) (read Module l.tree)

lists-say : (l : Lent) (room : Lengths) (ms : Modules) → Says l room ms (lists_of l)
unfolding lists_of
lists-say l room ms = go (bad_lists l) (repeats (rows_in l.table)) (read Module l.tree) refl refl refl
  where
    go : (a b : Bool) (r : Reading Fields) → bad_lists l ≡ a → repeats (rows_in l.table) ≡ b → read Module l.tree ≡ r →
        Says l room ms (cond a (Err BadLists) (cond b (Err NamedTwice) (read_as (verdict r))))
    go true b r e f q = (λ _. called-bad l room ms e, tt)
    go false true r e f q = (λ _. called-by l room ms true e f, tt)
    go false false (fine fs) e f q = (called-read l room ms (done (items_in l.tree)) e f (module-items l.tree fs q), most l e, (few l e).0, (few l e).1, (fs, q))
    go false false (unread w p) e f q = (λ _. called-read l room ms (refused (read_refusal w) p) e f (ap items_read q), q)

-- the tests look neither at the file nor at the modes
lists-same : (file : ℕ) (modes : Modes) (externals table tree : List ℕ) → lists_of (lent_as file modes externals table tree) ≡ lists_of (lent_as 0 (modes_of 0) externals table tree)
unfolding lists_of bad_lists
lists-same file modes externals table tree = refl

pub says : (file : ℕ) (modes : Modes) (externals table tree : List ℕ) (room : Lengths) (ms : Modules) {r : Result Unit ExtractError} (a : Result Unit ExtractError) →
    r ≡ lists_of (lent_as 0 (modes_of 0) externals table tree) → r ≡ a → Says (lent_as file modes externals table tree) room ms a
says file modes externals table tree room ms a d e =
    let l = lent_as file modes externals table tree in
    subst (Says l room ms) (lists-same file modes externals table tree ∙ sym d ∙ e) (lists-say l room ms)
