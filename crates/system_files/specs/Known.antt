-- How regular files are known, and which may be made.
use Rattle.std.specs.Prelude.{◌≡◌, ℕ, List, Bool, false, ◌&&◌, nat_eq, Option, Some, None, ⊤, string_bytes}
use Rattle.std.specs.HashMap.{get}
use Rattle.system_files.specs.declared.known.Known.{Known}
use Rattle.system_files.specs.declared.known.Known.TheVariants.{By, Fixed}
use Rattle.system_files.specs.declared.known.KnownFiles.{KnownFiles}

-- a device, and a file's number there
abbrev pub FileId : Type 0
FileId = ℕ × ℕ

abbrev pub same_file : FileId → FileId → Bool
same_file a b = nat_eq a.0 b.0 && nat_eq a.1 b.1

-- how a file is known
abbrev pub known_as : KnownFiles → FileId → Option Known
known_as known id = get same_file known.files id

-- all other files are known as before
abbrev pub KeepsOtherFiles : FileId → KnownFiles → KnownFiles → Type 0
KeepsOtherFiles id old new = (other : FileId) → same_file id other ≡ false → known_as new other ≡ known_as old other

-- a file that is known so may be made under a path: it isn't known, or by that path alone
abbrev pub MayMake : Option Known → List ℕ → Type 0
MayMake None path = ⊤
MayMake (Some (By own)) path = string_bytes own ≡ path
MayMake (Some Fixed) path = ⊥

-- a file is known by a path alone
abbrev pub IsKnownBy : List ℕ → Option Known → Type 0
IsKnownBy path None = ⊥
IsKnownBy path (Some (By own)) = string_bytes own ≡ path
IsKnownBy path (Some Fixed) = ⊥
