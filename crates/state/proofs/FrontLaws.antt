-- The cells at the front of a good array are good by themselves: the tables lie there, and so do the hints and what a pass is set to.
use Prim.Native.Nat.{ℕ, ◌+◌, ◌*◌, ◌≤◌, ◌<◌}
use native.Mathlib.Omega.{arith}
use mathlib.Core.Path.{◌≡◌, sym, ap, subst, ◌∙◌}
use mathlib.Core.List.{List}
use lib.ListN.{get_or, take}
use Rattle.std.proofs.lemmas.List.{get_or-take, length-take-le}
use Rattle.tables.specs.Rows.{rows, rows_from}
use Rattle.tables.proofs.RowLaws.{from-agree}
use Rattle.state.specs.Cells.{Kind, imports, uses, records, namespaces, lazies, forces, modules, externals, table, table_of, own_cell, cells, InLimits, Hinted, Good}
use Rattle.state.proofs.HintLaws.{hinted-agree, grows-stays}

-- where a table lies among the cells
record Inside (k : Kind) : Type 0 where
  count : (table_of k).count < cells
  ends : (table_of k).base + 2 * (table_of k).room ≤ cells

inside : (k : Kind) → Inside k
inside imports = record { count = omega arith; ends = omega arith }
inside uses = record { count = omega arith; ends = omega arith }
inside records = record { count = omega arith; ends = omega arith }
inside namespaces = record { count = omega arith; ends = omega arith }
inside lazies = record { count = omega arith; ends = omega arith }
inside forces = record { count = omega arith; ends = omega arith }
inside modules = record { count = omega arith; ends = omega arith }
inside externals = record { count = omega arith; ends = omega arith }
inside table = record { count = omega arith; ends = omega arith }

module _ {t : List ℕ} (g : Good t) where
  abbrev front : List ℕ
  front = take cells t

  front-cell : (i : ℕ) → i < cells → get_or front i 0 ≡ get_or t i 0
  front-cell i h = get_or-take cells t i 0 h

  pub front-rows : (k : Kind) → rows (table_of k) front ≡ rows (table_of k) t
  unfolding rows
  front-rows k =
      let b = table_of k in
      let n = inside k in
      let held = (g.lies k).held in
      ap (λ (m : ℕ). rows_from m b.base front) (front-cell b.count n.count)
      ∙ from-agree (get_or t b.count 0) b.base t front (λ i p q. front-cell i (let e = n.ends in omega arith))

  pub front-good : Good front
  front-good =
      record {
        size = let n = length-take-le cells t g.size in omega arith;
        lies = λ k. record {
          ends = let n = length-take-le cells t g.size in let e = (inside k).ends in omega arith;
          cell = (g.lies k).cell;
          held = let e = front-cell (table_of k).count (inside k).count in let h = (g.lies k).held in omega arith;
        };
        below = λ k. subst (InLimits k) (sym (front-rows k)) (g.below k);
        hinted = λ k. subst (Hinted k front) (sym (front-rows k)) (hinted-agree t front
            (record {
              grown = λ h b. grows-stays (front-cell (15994 + h) (omega arith));
              reaching = λ h b. let e = front-cell (21074 + h) (omega arith) in omega arith;
            }) k (rows (table_of k) t) (g.hinted k));
        own_below = let e = front-cell own_cell (omega arith) in let b = g.own_below in omega arith;
      }
