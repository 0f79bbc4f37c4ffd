-- What the library tells of itself.
use Rattle.std.specs.Prelude.{ℕ, List, codes}

-- the version
unfoldable pub version : List ℕ
version = codes "0.2.0"
