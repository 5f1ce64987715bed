-- The palette update flag. 01, module 3: "palette update flag 1 (80 means update)".
-- From US 2009/0185789, whose text is not at hand: 01 gives what is needed of it.
use Rattle.std.specs.Prelude.{ℕ, Bool, eqb}

abbrev pub is_update : ℕ → Bool
is_update v = eqb v 0x80
