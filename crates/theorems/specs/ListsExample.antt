-- A worked list of calls, by computation: which calls wrap which modules, and the marks after it. It is our own.
use Rattle.std.specs.Prelude.{ℕ, ◌≡◌, refl, true, false, List, [], ◌∷◌, ◌++◌, map}
use Rattle.scope.specs.declared.Mark.TheVariants.{Stored, Cjs, Wrapping}
use Rattle.scope.specs.Id.{module_id}
use Rattle.scope.specs.Modules.{gen, files_in, request_all, marking}
use Rattle.tree.specs.Tree.{encode}
use Rattle.extraction_rules.specs.Call.{Lent, Lengths}
use Rattle.extraction_rules.specs.Build.{a, own, imports, namespace, statement, ident, program, records, collected, lending, room, rooms}
use Rattle.extraction_rules.specs.Computes.{computing}
use Rattle.resolving_rules.specs.Call.{Lent as LentRecords}
use Rattle.resolving_rules.specs.Computes.{computing as computing-resolved}
use Rattle.theorems.specs.Lists.{Call, requests, requests_all, sets, reads, reads_esm, extracts, resolves, after, after_all, wraps, wraps_any}

-- `import * as a from './m'; a;` forces ./m
abbrev forcing : Lent
forcing = lending 0 (encode (program (imports (namespace (own a) ∷ []) ∷ statement (ident (own a)) ∷ [])))

abbrev too_short : Lengths
too_short = record { work = room; out = room; records = 0 }

abbrev listing : LentRecords
listing = record { modes = forcing.modes; table = forcing.table; records = encode (records (collected [] ∷ [])) }

-- file 9 becomes module 0, and stays it in a list of files with a byte too many; module 1 is not given, so refused; an extraction that forces ./m is refused for want of room; file 10 becomes
-- module 1; module 0 is marked cjs
abbrev quiet : List Call
quiet =
    requests (record { 0 = 9 }) ∷
    requests_all (0 ∷ 9 ∷ 7 ∷ []) ∷
    sets Wrapping (module_id 1) ∷
    extracts forcing too_short ∷
    resolves listing room ∷
    sets Cjs (module_id 0) ∷
    []

-- the same extraction with room; module 0 is marked by name
abbrev wrapping : List Call
wrapping =
    extracts forcing rooms ∷
    reads Stored (module_id 7) ∷
    reads_esm (module_id 1) ∷
    sets Wrapping (module_id 0) ∷
    []

abbrev numbers : List ℕ
numbers = 0 ∷ 1 ∷ 2 ∷ []

-- nothing is wrapped, neither by the calls nor in the scope
quiet-wraps : map (λ n. wraps_any n quiet []) numbers ≡ false ∷ false ∷ false ∷ []
unfolding computing computing-resolved gen files_in request_all marking after wraps wraps_any
quiet-wraps = refl

quiet-after : after_all quiet [] ≡
    record { file = 9; loaded = false; stored = false; cjs = true; wrapping = false } ∷
    record { file = 10; loaded = false; stored = false; cjs = false; wrapping = false } ∷ []
unfolding computing computing-resolved gen files_in request_all marking after after_all
quiet-after = refl

-- both modules are wrapped
wrapping-wraps : map (λ n. wraps_any n (quiet ++ wrapping) []) numbers ≡ true ∷ true ∷ false ∷ []
unfolding computing computing-resolved gen files_in request_all marking after wraps wraps_any
wrapping-wraps = refl

wrapping-after : after_all (quiet ++ wrapping) [] ≡
    record { file = 9; loaded = false; stored = false; cjs = true; wrapping = true } ∷
    record { file = 10; loaded = false; stored = false; cjs = false; wrapping = true } ∷ []
unfolding computing computing-resolved gen files_in request_all marking after after_all
wrapping-after = refl
