-- Resolved records, one by one as they are written.
use Rattle.std.specs.Prelude.{Option, None, Some, unwrap_or, Result, Ok, Err, IsOk}
use Prim.Native.Nat.{ℕ, ◌+◌, ◌/◌, ◌%◌, ◌<◌}
use native.Mathlib.Omega.{arith}
use mathlib.Core.Path.{◌≡◌, refl, sym, ap, ap₂, subst, ◌∙◌}
use mathlib.Core.Bool.{Bool}
use mathlib.Core.List.{List, [], ◌∷◌, ◌++◌}
use lib.ListN.{length, get_or}
use lib.Seq.{slice, length-slice}
use Rattle.scope.specs.Id.{local, export}
use Rattle.scope.specs.Modules.{Modules, Generated, generated_by, gen}
use Rattle.scope.specs.ScopeValue.{modules_of, generated}
use Rattle.scope.specs.declared.Gen.{Gen}
use Rattle.scope.specs.declared.Numbers.{Numbers as Given}
use Rattle.scope.specs.declared.TooManyFiles.{TooManyFiles}
use Rattle.scope.specs.declared.id.FileName.{FileName}
use Rattle.scope.proofs.Laws.{gen-known}
use Rattle.tree.specs.Layout.{two, four, literal_value}
use Rattle.tree.specs.Tree.{Field, field, Fields, none}
use Rattle.tree.specs.Standing.{row_at}
use Rattle.tree.specs.Rows.{tree_of, fields_of}
use Rattle.tree.specs.declared.row.Part.{Part}
use Rattle.tree.specs.declared.row.Row.{Row as PartRow}
use Rattle.writer.specs.Bytes.{two_bytes, four_bytes}
use Rattle.inputs.specs.Outcome.{done, refused, onto}
use Rattle.inputs.specs.Lists.{among}
use Rattle.inputs.specs.Table.{Row, file_of}
use Rattle.resolving_rules.specs.Resolve.{source_of, sources_in, kind_byte, module_of, heading, resolved_specifiers, resolved_record, resolved_all}
use Rattle.resolving.proofs.NumbersLaws.{generated_as}
use Rattle.resolving.specs.Records.{SourceRead}
use Rattle.resolving.specs.Numbers.{Numbers, NumbersAll}
use Rattle.tree.proofs.PartLaws.{row-there}
use Rattle.resolving.proofs.RecordsLaws.{Standing}
use Rattle.resolving.proofs.NumbersLaws.{source-value}
use Rattle.resolving.proofs.WritesLaws.{consed, Cons}

-- ---- What stands before the specifiers

two_bytes-is_two : (n : ℕ) → n < 65536 → two_bytes n ≡ two n
two_bytes-is_two n h = let a : n / 256 ≡ n / 256 % 256 = omega arith in cc

four_bytes-is_four : (n : ℕ) → n < 4294967296 → four_bytes n ≡ four n
four_bytes-is_four n h =
    let a : n / 65536 / 256 ≡ n / 16777216 % 256 = omega arith in
    let b : n % 65536 / 256 ≡ n / 256 % 256 = omega arith in
    let c : n % 65536 % 256 ≡ n % 256 = omega arith in
    cc

pub heading-bytes : (kind n file l e : ℕ) (x : List ℕ) → n < 65536 → file < 65536 → l ≡ local n → e ≡ export n →
    ((kind ∷ []) ++ two_bytes n ++ two_bytes file ++ four_bytes l ++ four_bytes e ++ x) ≡ (kind ∷ two n ++ two file ++ four (local n) ++ four (export n) ++ x)
heading-bytes kind n file l e x h k u v =
    let a = two_bytes-is_two n h in
    let b = two_bytes-is_two file k in
    let c : four_bytes l ≡ four (local n) = ap four_bytes u ∙ four_bytes-is_four (local n) (omega arith) in
    let d : four_bytes e ≡ four (export n) = ap four_bytes v ∙ four_bytes-is_four (export n) (omega arith) in
    ap₂ (λ (p q : List ℕ). (kind ∷ []) ++ p ++ q ++ four_bytes l ++ four_bytes e ++ x) a b
    ∙ ap₂ (λ (p q : List ℕ). (kind ∷ []) ++ two n ++ two file ++ p ++ q ++ x) c d

-- ---- A record

-- asking again gives the number that the file has
module _ (rows : List Row) (ms : Modules) (f : Field) {file : FileName} (g : Gen) (w : Numbers rows ms f) (h : file_of (source_of f) rows ≡ Some file.0) (e : generated g ≡ gen file ms) where
  again : generated g ≡ generated_by (Some ((w.given file.0 h).0, ms)) ms
  again = e ∙ gen-known file ms (w.given file.0 h).1

  pub number-known : IsOk g.answer
  number-known = by g.answer again
    where
      by : (r : Result Given TooManyFiles) → generated_as r (modules_of g.scope) ≡ generated_by (Some ((w.given file.0 h).0, ms)) ms → IsOk r
      by (Ok n) q = refl
      by (Err t) q = let z = ap (λ (k : Generated). k.refusal) q in absurd (let y : ◌≡◌ {A = ℕ} 0 1 = cc in omega arith)

  pub module-again : {n : Given} → g.answer ≡ Ok n → n.id.0 ≡ module_of file.0 ms
  module-again z =
      ap (λ (k : Generated). k.id.0) (sym (ap (λ (r : Result Given TooManyFiles). generated_as r (modules_of g.scope)) z) ∙ again)
      ∙ sym (ap (λ (o : Option ℕ). unwrap_or o 0) (w.given file.0 h).1)

module _ (rows : List Row) (forced : List (List ℕ)) (ms : Modules) {p : Part} {v : ℕ} (r : SourceRead p) (l : v ≡ literal_value p.bytes.now (p.at + 3)) where
  pub source-file : {o : Option ℕ} → file_of (two v) rows ≡ o → file_of (source_of (tree_of p)) rows ≡ o
  source-file q = ap (λ (a : List ℕ). file_of a rows) (source-value r ∙ ap two (sym l)) ∙ q

  pub record-nowhere : file_of (two v) rows ≡ None → resolved_record (file_of (source_of (tree_of p)) rows) forced ms (tree_of p) p.at ≡ refused 11 p.at
  unfolding resolved_record
  record-nowhere q = ap (λ (o : Option ℕ). resolved_record o forced ms (tree_of p) p.at) (source-file q)

  abbrev literal : List ℕ
  literal = slice (p.at + 3) (p.at + 9) p.bytes.now

  abbrev head : ℕ → ℕ → ℕ → List ℕ
  head kind m file = kind ∷ two m ++ two file ++ four (local m) ++ four (export m) ++ literal

  -- its specifiers are those of the row q
  pub record-file : {kind m file : ℕ} {all : Bool} (q : PartRow) → (q.bytes.now ≡ p.bytes.now) × (q.at ≡ p.at + 9) × (q.end ≡ p.stop) →
      file_of (two v) rows ≡ Some file → kind ≡ kind_byte (get_or p.bytes.now p.at 0) → m ≡ module_of file ms → all ≡ among (two v) forced →
      resolved_record (file_of (source_of (tree_of p)) rows) forced ms (tree_of p) p.at
      ≡ onto (resolved_specifiers all (fields_of q) q.at) (λ gs. done (field 0x90 (head kind m file) gs))
  unfolding resolved_record heading
  record-file {kind} {m} {file} {all} q made here k n a =
      let w = r.wide in
      let f = p.whole.1 in
      let d = length-slice (p.at + 3) (p.at + 9) p.bytes.now (omega arith) in
      let z : p.at + 3 + length literal ≡ p.at + 9 = omega arith in
      let t : source_of (field (get_or p.bytes.now p.at 0) literal (row_at p.bytes.now (p.at + 9) p.stop)) ≡ two v = sym (ap source_of r.tree) ∙ source-value r ∙ ap two (sym l) in
      row-there q made
      (λ s i e. resolved_record (file_of (source_of (tree_of p)) rows) forced ms (tree_of p) p.at ≡ onto (resolved_specifiers all (row_at s i e) i) (λ gs. done (field 0x90 (head kind m file) gs)))
      (ap (λ (o : Option ℕ). resolved_record o forced ms (tree_of p) p.at) (source-file here)
      ∙ ap (λ (g : Field). resolved_record (Some file) forced ms g p.at) r.tree
      ∙ ap₂ (λ (b : Bool) (i : ℕ). onto (resolved_specifiers b (row_at p.bytes.now (p.at + 9) p.stop) i)
      (λ gs. done (field 0x90 (head (kind_byte (get_or p.bytes.now p.at 0)) (module_of file ms) file) gs)))
      (ap (λ (x : List ℕ). among x forced) t ∙ sym a) z
      ∙ ap₂ (λ (i j : ℕ). onto (resolved_specifiers all (row_at p.bytes.now (p.at + 9) p.stop) (p.at + 9)) (λ gs. done (field 0x90 (head i j file) gs))) (sym k) (sym n))

-- ---- All of them

module _ (rows : List Row) (forced : List (List ℕ)) (ms : Modules) where
  pub list-end : (at : ℕ) {fs : Fields} → fs ≡ none → resolved_all rows forced ms fs at ≡ done none
  unfolding resolved_all
  list-end at e = ap (λ (fs : Fields). resolved_all rows forced ms fs at) e

  module _ {here next : PartRow} {p : Part} (w : Standing here p next) where
    -- with the forced sources as the record tells them
    pub list-more : {told : List (List ℕ)} → told ≡ forced → Cons (resolved_all rows forced ms (sources_in (fields_of here)) here.at)
        (resolved_record (file_of (source_of (tree_of p)) rows) told ms (tree_of p) p.at) (resolved_all rows forced ms (sources_in (fields_of next)) next.at)
    unfolding resolved_all
    list-more e =
        record {
          is =
              ap (λ (fs : Fields). resolved_all rows forced ms fs here.at) w.row
              ∙ ap₂ (λ (m n : ℕ). consed (resolved_record (file_of (source_of (tree_of p)) rows) forced ms (tree_of p) m)
              (resolved_all rows forced ms (sources_in (fields_of next)) n)) w.stands w.after
              ∙ ap (λ (x : List (List ℕ)). consed (resolved_record (file_of (source_of (tree_of p)) rows) x ms (tree_of p) p.at)
              (resolved_all rows forced ms (sources_in (fields_of next)) next.at)) (sym e);
        }

    pub numbers-next : NumbersAll rows ms (sources_in (fields_of here)) → Numbers rows ms (tree_of p) × NumbersAll rows ms (sources_in (fields_of next))
    numbers-next n = subst (NumbersAll rows ms) w.row n
