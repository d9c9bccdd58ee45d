-- The limits of the product.
use Rattle.cc_base.specs.declared.limit_table.Limits.{Limits}

abbrev pub standard_limits : Limits
standard_limits = record {
  temps = 64;
  bases = 1016;
  cells = 4096;
  blocks = 8192;
  instructions = 262144;
  pool = 4194304;
}
