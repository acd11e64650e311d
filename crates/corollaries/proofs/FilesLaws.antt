-- The files in a scope's bytes, put into a buffer: a module's file is two bytes more (`file-written`), and what is lent is exactly these
-- bytes (`lent-part`), since 256 modules fill 512.
use Prim.Native.Nat.{ℕ, zero, suc, ◌+◌, ◌-◌, ◌*◌, ◌≤◌, ◌<◌}
use native.Mathlib.Omega.{arith}
use mathlib.Core.Path.{◌≡◌, refl, sym, ap, subst, ◌∙◌}
use mathlib.Core.List.{List, [], ◌∷◌}
use lib.ListN.{length, length-replicate, get_or, take, drop, replicate}
use lib.Seq.{sets-eq, take_at}
use Rattle.modes.specs.declared.Modes.{Modes}
use Rattle.tree.specs.Layout.{two_at, field_in}
use Rattle.writer.specs.Wrote.{Wrote}
use Rattle.writer.proofs.Wrote.{wrote-none, wrote-then, wrote-as}
use Rattle.resolving.specs.Answer.{lent_as}
use Rattle.tychodrel.specs.Calls.{resolve_call, LeavesList}
use Rattle.corollaries.specs.Hosts.{files_from, files_back}

-- ---- One module after the other

files-more : (s : List ℕ) (n i : ℕ) → i < n → get_or s (2 + 3 * i) 0 ∷ get_or s (3 + 3 * i) 0 ∷ files_from (n - (i + 1)) (i + 1) s ≡ files_from (n - i) i s
unfolding files_from
files-more s n i h =
    let e : n - i ≡ suc (n - (i + 1)) = omega arith in
    let f : i + 1 ≡ suc i = omega arith in
    rw (e, f)

pub file-written : (s : List ℕ) (n i : ℕ) {l m k z : List ℕ} {o p q r : ℕ} → i < n →
    Wrote l o (get_or s (2 + 3 * i) 0 ∷ []) m p → Wrote m p (get_or s (3 + 3 * i) 0 ∷ []) k q → Wrote k q (files_from (n - (i + 1)) (i + 1) s) z r →
    Wrote l o (files_from (n - i) i s) z r
file-written s n i h x y w = wrote-as (wrote-then (wrote-then x y) w) (files-more s n i h)

pub all-files : (s : List ℕ) (n : ℕ) {l m : List ℕ} {o p : ℕ} → n ≡ two_at s 0 → Wrote l o (files_from (n - 0) 0 s) m p → Wrote l o (files_back s) m p
unfolding files_back
all-files s n e w =
    let f : n - 0 ≡ two_at s 0 = omega arith in
    wrote-as w (ap (λ (k : ℕ). files_from k 0 s) f)

pub no-files : (s : List ℕ) (n i : ℕ) {l : List ℕ} {o : ℕ} → n ≤ i → Wrote l o (files_from (n - i) i s) l o
unfolding files_from
no-files s n i h =
    let e : n - i ≡ 0 = omega arith in
    wrote-as wrote-none (sym (ap (λ (k : ℕ). files_from k i s) e))

-- ---- What is lent

files-size : (k i : ℕ) (s : List ℕ) → length (files_from k i s) ≡ 2 * k
unfolding files_from
files-size zero i s = refl
files-size (suc k) i s = let e = files-size k (suc i) s in omega arith

back-size : (s : List ℕ) → length (files_back s) ≡ 2 * two_at s 0
unfolding files_back
back-size s = files-size (two_at s 0) 0 s

module _ (s : List ℕ) {f : List ℕ} {p : ℕ} (h : two_at s 0 ≤ 256) (w : Wrote (replicate 512 0) 0 (files_back s) f p) where
  lent-end : p ≡ length (files_back s)
  lent-end = let e = back-size s in let a = w.at in omega arith

  pub lent-fits : p ≤ length f
  lent-fits =
      let e = back-size s in
      let a = lent-end in
      let b = w.size ∙ length-replicate {A = ℕ} 512 0 in
      omega arith

  lent-files : take p f ≡ files_back s
  lent-files =
      let e = back-size s in
      ap (take p) (w.bytes (omega arith) ∙ sets-eq (files_back s) (replicate 512 0) 0 (omega arith))
      ∙ take_at (files_back s) (drop (0 + length (files_back s)) (replicate 512 0)) p (sym lent-end)

-- the call with the parts of both buffers is that with the files and with the field at the front
pub lent-part : (modes : Modes) (s table k : List ℕ) (n e room : ℕ) {f z c g : List ℕ} {a : ℕ} → two_at s 0 ≤ 256 → Wrote (replicate 512 0) 0 (files_back s) f n →
    take e k ≡ field_in k → LeavesList (resolve_call (take (n - 0) (drop 0 f)) (lent_as modes table (take (e - 0) (drop 0 k))) room) a z c g →
    LeavesList (resolve_call (files_back s) (lent_as modes table (field_in k)) room) a z c g
lent-part modes s table k n e room {f} {z} {c} {g} {a} h w t x =
    let u : n - 0 ≡ n = omega arith in
    let v : e - 0 ≡ e = omega arith in
    subst (λ (b : List ℕ). LeavesList (resolve_call (files_back s) (lent_as modes table b) room) a z c g) (ap (λ (i : ℕ). take i k) v ∙ t)
    (subst (λ (b : List ℕ). LeavesList (resolve_call b (lent_as modes table (take (e - 0) (drop 0 k))) room) a z c g) (ap (λ (i : ℕ). take i f) u ∙ lent-files s h w) x)
