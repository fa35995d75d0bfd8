-- The texts of errors.
use Rattle.std.specs.Prelude.{ℕ, List, codes}

abbrev pub out_of_memory_text : List ℕ
out_of_memory_text = codes "memory was refused"
