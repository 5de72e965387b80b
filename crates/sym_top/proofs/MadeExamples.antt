-- The log of five records from the seed 1.
use Rattle.std.proofs.Common.{◌≡◌, codes, refl}
use Rattle.std.specs.Fmt.{digits}
use Rattle.sym_top.specs.Making.{draw_at, made_file}

first_draw : draw_at 1 1 ≡ 16838
first_draw = refl

fifth_draw : draw_at 1 5 ≡ 31051
fifth_draw = refl

five_records : made_file 5 1 ≡ codes "ts,user\n6,u4\n12,u9\n13,u4\n16,u9\n19,u1\n"
unfolding digits
five_records = refl
