-- What an accepted call is made of.
use Rattle.std.specs.Prelude.{Some}
use Prim.Native.Nat.{ℕ}
use mathlib.Core.Path.{◌≡◌, refl, sym, ap, subst, ◌∙◌}
use mathlib.Core.Bool.{true}
use mathlib.Core.List.{List, []}
use Rattle.modes.specs.declared.Modes.{Modes}
use Rattle.scope.specs.Modules.{Modules, number_of}
use Rattle.tree.specs.declared.grammar.Set.TheVariants.{Records}
use Rattle.tree.specs.Tree.{field, Fields, parts_of, size}
use Rattle.tree.specs.Read.{read}
use Rattle.writer.specs.Finished.{has_room}
use Rattle.inputs.specs.Outcome.{Outcome, done, refuse_if}
use Rattle.inputs.specs.Table.{Row, rows_in, bad_table, table_of}
use Rattle.inputs.specs.Buffer.{fits}
use Rattle.inputs.proofs.AcceptedLaws.{done-inj, onto-done, table-rows, fits-room}
use Rattle.resolving_rules.specs.Resolve.{sources_in, forced_in, number_all, resolved_all}
use Rattle.resolving_rules.specs.Call.{Lent, records_read, Numbered, numbered, Resolved, listed, resolved, modules_after, Left, resolving}
use Rattle.resolving_rules.proofs.ResolveLaws.{number_all-keeps}

-- the sources in the records cs are numbered, and the list is made of them
pub record Listed (rows : List Row) (cs : Fields) (ms : Modules) (q : Resolved) : Type 0 where
  pub numbers : number_all rows (sources_in cs) ms 3 ≡ done q.modules
  pub lists : resolved_all rows (forced_in cs) q.modules (sources_in cs) 3 ≡ done (parts_of q.list)

numbers-same : (ms : Modules) (a b : List Row) (fs gs : Fields) (m n : Modules) → a ≡ b → fs ≡ gs → m ≡ n →
    number_all a (sources_in fs) ms 3 ≡ done m → number_all b (sources_in gs) ms 3 ≡ done n
numbers-same ms a b fs gs m n u v w h = rw (u, v, w) at h

pub numbered-made : (l : Lent) (ms : Modules) (q : Numbered) → numbered l ms ≡ done q →
    (q.rows ≡ rows_in l.table) × (records_read (read Records l.records) ≡ done q.records)
    × (number_all q.rows (sources_in q.records) ms 3 ≡ done q.modules)
unfolding numbered
numbered-made l ms q e =
    let a = onto-done (refuse_if (bad_table l.table) 1) _ q e in
    let b = onto-done (table_of l.table) _ q a.2 in
    let c = onto-done (records_read (read Records l.records)) _ q b.2 in
    let d = onto-done (number_all b.0 (sources_in c.0) ms 3) _ q c.2 in
    let m = done-inj d.2 in
    let u : c.0 ≡ q.records = ap (λ (n : Numbered). n.records) m in
    let v : b.0 ≡ q.rows = ap (λ (n : Numbered). n.rows) m in
    let w : d.0 ≡ q.modules = ap (λ (n : Numbered). n.modules) m in
    (sym v ∙ table-rows l.table b.0 b.1, c.1 ∙ ap done u, numbers-same ms b.0 q.rows c.0 q.records d.0 q.modules v u w d.1)

listed-made : (q : Numbered) (room : ℕ) (r : Resolved) → listed q room ≡ done r →
    (r.modules ≡ q.modules)
    × (resolved_all q.rows (forced_in q.records) q.modules (sources_in q.records) 3 ≡ done (parts_of r.list))
    × (has_room (size r.list) room ≡ true)
unfolding listed
listed-made q room r e =
    let a = onto-done (resolved_all q.rows (forced_in q.records) q.modules (sources_in q.records) 3) _ r e in
    let b = onto-done (fits (field 0x03 [] a.0) room) _ r a.2 in
    let m = done-inj b.2 in (
      sym (ap (λ (n : Resolved). n.modules) m),
      a.1 ∙ ap (λ (n : Resolved). done (parts_of n.list)) m,
      subst (λ (n : Resolved). has_room (size n.list) room ≡ true) m (fits-room (field 0x03 [] a.0) room b.0 b.1),
    )

pub call-listed : (l : Lent) (room : ℕ) (ms : Modules) (q : Resolved) (cs : Fields) → resolved l room ms ≡ done q →
    records_read (read Records l.records) ≡ done cs → Listed (rows_in l.table) cs ms q
unfolding resolved
call-listed l room ms q cs e r =
    let a = onto-done (numbered l ms) _ q e in
    let n = numbered-made l ms a.0 a.1 in
    let m = listed-made a.0 room q a.2 in
    let c : a.0.records ≡ cs = done-inj (sym n.1 ∙ r) in
    record { numbers = rw (n.0, c, sym m.0) at n.2; lists = rw (n.0, c, sym m.0) at m.1 }

-- the buffer of an accepted call has room for the list
pub call-room : (l : Lent) (room : ℕ) (ms : Modules) (q : Resolved) → resolved l room ms ≡ done q → has_room (size q.list) room ≡ true
unfolding resolved
call-room l room ms q e = let a = onto-done (numbered l ms) _ q e in (listed-made a.0 room q a.2).2

-- the modules that an accepted call leaves
pub call-modules : (l : Lent) (room : ℕ) (ms : Modules) (q : Resolved) → resolved l room ms ≡ done q → modules_after (numbered l ms) ms ≡ q.modules
unfolding resolved
call-modules l room ms q e =
    let a = onto-done (numbered l ms) _ q e in
    ap (λ (m : Outcome Numbered). modules_after m ms) a.1 ∙ sym (listed-made a.0 room q a.2).0

-- no accepted call changes a number that was given
pub call-keeps-numbers : (l : Lent) (room : ℕ) (ms : Modules) (q : Resolved) → resolved l room ms ≡ done q →
    (g k : ℕ) → number_of g ms ≡ Some k → number_of g q.modules ≡ Some k
unfolding resolved
call-keeps-numbers l room ms q e g k h =
    let a = onto-done (numbered l ms) _ q e in
    let n = numbered-made l ms a.0 a.1 in
    subst (λ (m : Modules). number_of g m ≡ Some k) (sym (listed-made a.0 room q a.2).0)
    (number_all-keeps a.0.rows g k (sources_in a.0.records) ms a.0.modules 3 n.2 h)

abbrev left_with : Modes → List ℕ → List ℕ → ℕ → Modules → Left
left_with modes table records room ms = resolving (record { modes = modes; table = table; records = records }) room ms

-- no rule of resolving asks the modes
pub modes-unasked : (modes other : Modes) (table records : List ℕ) (room : ℕ) (ms : Modules) → left_with modes table records room ms ≡ left_with other table records room ms
unfolding resolving resolved numbered
modes-unasked modes other table records room ms = refl
