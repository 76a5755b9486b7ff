-- The limits of a folder, of its tree and of a file.
use Rattle.std.specs.Prelude.{ℕ}

-- how many paths a folder may list, and files a tree may have
unfoldable pub most_listed : ℕ
most_listed = 1000000

unfoldable pub most_files : ℕ
most_files = 100000

-- how many bytes a file may have, and the files of a tree together
unfoldable pub most_file_bytes : ℕ
most_file_bytes = 1048576

unfoldable pub most_tree_bytes : ℕ
most_tree_bytes = 268435456
