-- The attributes of the preprocessor, in two parts.
use Rattle.std.specs.Prelude.{ℕ, List, Bool, ◌||◌, codes}
use Rattle.std.specs.Str.{bytes_eq}

-- one that defines a macro or includes a file, or asks whether a macro is defined
unfoldable pub is_of_macros : List ℕ → Bool
is_of_macros name = bytes_eq name (codes "define") || (bytes_eq name (codes "undef") || (bytes_eq name (codes "include") || (bytes_eq name (codes "include_lib") || (bytes_eq name (codes "ifdef") || bytes_eq name (codes "ifndef")))))

-- another one
unfoldable pub is_of_conditions : List ℕ → Bool
is_of_conditions name = bytes_eq name (codes "else") || (bytes_eq name (codes "endif") || (bytes_eq name (codes "if") || (bytes_eq name (codes "elif") || (bytes_eq name (codes "error") || (bytes_eq name (codes "warning") || bytes_eq name (codes "feature"))))))
