-- What the fields of a request ask.
use Rattle.std.specs.Prelude.{ℕ, ◌≡◌, List, [], length, take, drop, map, codes, slice_index_or}
use Rattle.std.specs.Borrow.{Bor}
use Rattle.request_fields.specs.Spelled.{IsNumber, IsFlag, IsLength, IsBytes, IsFile, IsContext}
use Rattle.request_fields.specs.declared.ExtractRequest.{ExtractRequest}
use Rattle.request_fields.specs.declared.ResolveRequest.{ResolveRequest}
use Rattle.request_fields.specs.declared.BothRequest.{BothRequest}
use Rattle.request_fields.specs.declared.DetectRequest.{DetectRequest}
use Rattle.request_fields.specs.declared.EncodeRequest.{EncodeRequest}
use Rattle.request_fields.specs.declared.DecodeRequest.{DecodeRequest}
use Rattle.request_fields.specs.declared.Request.{Request}
use Rattle.request_fields.specs.declared.Request.TheVariants.{Extract, Resolve, Both, Detect, Encode, Decode}

-- the fields behind their references
abbrev pub values : List (Bor (List ℕ)) → List (List ℕ)
values fs = map (λ f. f.now) fs

-- the field number k, from 0
abbrev pub at : List (List ℕ) → ℕ → List ℕ
at fs k = slice_index_or fs k []

-- FILES OWN CONFIG EXTERNALS TABLE TREE WORKLEN OUTLEN RECLEN
pub record AsksExtract (fs : List (List ℕ)) (r : ExtractRequest) : Type 0 where
  pub count : length fs ≡ 9
  pub files : IsBytes (at fs 0) r.files.items
  pub own : IsFile (at fs 1) r.own
  pub modes : IsNumber (at fs 2) r.modes
  pub externals : IsBytes (at fs 3) r.externals.items
  pub table : IsBytes (at fs 4) r.table.items
  pub tree : IsBytes (at fs 5) r.tree.items
  pub work : IsLength (at fs 6) r.work
  pub out : IsLength (at fs 7) r.out
  pub records : IsLength (at fs 8) r.records

-- FILES TABLE RECORDS LISTLEN
pub record AsksResolve (fs : List (List ℕ)) (r : ResolveRequest) : Type 0 where
  pub count : length fs ≡ 4
  pub files : IsBytes (at fs 0) r.files.items
  pub table : IsBytes (at fs 1) r.table.items
  pub records : IsBytes (at fs 2) r.records.items
  pub list : IsLength (at fs 3) r.list

-- the fields of an extract, and LISTLEN
pub record AsksBoth (fs : List (List ℕ)) (r : BothRequest) : Type 0 where
  pub count : length fs ≡ 10
  pub extract : AsksExtract (take 9 fs) r.extract
  pub list : IsLength (at fs 9) r.list

-- CONFIG TREE
pub record AsksDetect (fs : List (List ℕ)) (r : DetectRequest) : Type 0 where
  pub count : length fs ≡ 2
  pub modes : IsNumber (at fs 0) r.modes
  pub tree : IsBytes (at fs 1) r.tree.items

-- INJECTED CTX ATTRS OUTLEN
pub record AsksEncode (fs : List (List ℕ)) (r : EncodeRequest) : Type 0 where
  pub count : length fs ≡ 4
  pub injected : IsFlag (at fs 0) r.injected
  pub context : IsContext (at fs 1) r.context
  pub attributes : IsBytes (at fs 2) r.attributes.items
  pub out : IsLength (at fs 3) r.out

-- ATTRS
pub record AsksDecode (fs : List (List ℕ)) (r : DecodeRequest) : Type 0 where
  pub count : length fs ≡ 1
  pub attributes : IsBytes (at fs 0) r.attributes.items

-- the word in front, and the fields behind it
abbrev pub Asks : List (List ℕ) → Request → Type 0
Asks fs (Extract r) = (at fs 0 ≡ codes "extract") × AsksExtract (drop 1 fs) r
Asks fs (Resolve r) = (at fs 0 ≡ codes "resolve") × AsksResolve (drop 1 fs) r
Asks fs (Both r) = (at fs 0 ≡ codes "both") × AsksBoth (drop 1 fs) r
Asks fs (Detect r) = (at fs 0 ≡ codes "detect") × AsksDetect (drop 1 fs) r
Asks fs (Encode r) = (at fs 0 ≡ codes "encode") × AsksEncode (drop 1 fs) r
Asks fs (Decode r) = (at fs 0 ≡ codes "decode") × AsksDecode (drop 1 fs) r
