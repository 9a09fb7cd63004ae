-- The version of the library, and of the layout of its structs.
use Rattle.std.specs.Prelude.{ℕ}

-- 0.2.0, its three parts in one number, two digits for each of the last two. `QEWARIS_VERSION` of the header is the same.
abbrev pub version : ℕ
version = 200

-- The layout of the C boundary's structs. It is raised whenever a struct, a parameter or a code changes its meaning or goes; the
-- name of `qewaris_layout_2` carries it, and so does the name of the shared library.
abbrev pub layout : ℕ
layout = 2
