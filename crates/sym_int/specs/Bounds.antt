-- The bounds of forms in size. Those of a line are constants of src/form.rt.
use Rattle.std.specs.Prelude.{◌≢◌, ◌≤◌, ◌*◌, ◌^◌, ℕ, ℤ, pos, unsigned_abs}
use Rattle.sym_int.specs.declared.form.TheConstants as bound

-- The largest slope of a line, 2 * 10^12.
abbrev pub slope_max : ℕ
slope_max = unsigned_abs bound.SLOPE_MAX

-- The largest offset of a line, 2 * 10^24 + 10^12.
abbrev pub offset_max : ℕ
offset_max = unsigned_abs bound.OFFSET_MAX

-- The largest slope of a wide line: that of a line over a line.
abbrev pub wide_slope_max : ℕ
wide_slope_max = 4 * 10 ^ 24

-- The largest wide constant, and the largest offset of a wide line.
abbrev pub wide_max : ℕ
wide_max = 5 * 10 ^ 36

-- The largest dividend of a quotient: more than a limit can be from a wide line's offset.
abbrev pub dividend_max : ℕ
dividend_max = 6 * 10 ^ 36

-- The numbers can be the slope and the offset of a line.
abbrev pub AreOfLine : ℤ → ℤ → Type 0
AreOfLine a b = (a ≢ pos 0) × (unsigned_abs a ≤ slope_max) × (unsigned_abs b ≤ offset_max)
