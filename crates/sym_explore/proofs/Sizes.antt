-- How large conditions and statements are: the parts of each are smaller.
use Rattle.std.proofs.Common.{ℕ, ◌+◌}
use Rattle.sym_check.specs.Plan.CondPlans.{CondPlan, Compared, Words, CellIs, LabelIs, Test, Not, And, Or}
use Rattle.sym_check.specs.Plan.DoPlans.{DoPlan, Let, SetInt, SetEnum, CopyEnum, Keep, KeepFrom, PushNum, PushWord, If, DosPlan, End, Then}

abbrev pub cond_size : CondPlan → ℕ
cond_size (Compared compare t n) = 1
cond_size (Words v w) = 1
cond_size (CellIs c l) = 1
cond_size (LabelIs l m) = 1
cond_size (Test t c es) = 1
cond_size (Not c) = cond_size c + 1
cond_size (And c d) = cond_size c + cond_size d + 1
cond_size (Or c d) = cond_size c + cond_size d + 1

abbrev mutual
  pub do_size : DoPlan → ℕ
  do_size (Let n e) = 1
  do_size (SetInt c t) = 1
  do_size (SetEnum c l) = 1
  do_size (CopyEnum c d) = 1
  do_size (Keep c es) = 1
  do_size (KeepFrom c d) = 1
  do_size (PushNum c t) = 1
  do_size (PushWord c w) = 1
  do_size (If c a b) = dos_size a + dos_size b + 1

  pub dos_size : DosPlan → ℕ
  dos_size End = 1
  dos_size (Then d rest) = do_size d + dos_size rest + 1
