-- Units that are made from two numbers, to load the analysis.
use Rattle.std.specs.Prelude.{ℕ, zero, suc, ◌+◌, ◌*◌, ◌/◌, ◌%◌, [], ◌++◌, codes}
use Rattle.std.specs.Fmt.{decimal}
use Rattle.cli_texts.specs.Reports.{Bytes}

-- the next number of the sequence
abbrev pub next_seed : ℕ → ℕ
next_seed s = ((s % 2147483648) * 1103515245 + 12345) % 2147483648

abbrev pub kind_of : ℕ → ℕ
kind_of s = (s / 65536) % 4

-- the line of a function by its kind and its number
abbrev pub function_line : ℕ → ℕ → Bytes
function_line zero k = codes "void f" ++ (decimal k ++ codes "(void){int a[8];int i;for(i=0;i<8;i++)a[i]=i;}\n")
function_line (suc zero) k = codes "void f" ++ (decimal k ++ codes "(void){int a[8];int i;for(i=0;i<=8;i++)a[i]=i;}\n")
function_line (suc (suc zero)) k = codes "void f" ++ (decimal k ++ codes "(void){int b=getchar();int c=100/b;putchar(c);}\n")
function_line (suc (suc (suc kind))) k = codes "void f" ++ (decimal k ++ codes "(void){int x=getchar();int y=0;if(y=x)putchar(y);}\n")

-- the lines of so many functions, from a number on, behind a number of the sequence
abbrev pub function_lines : ℕ → ℕ → ℕ → Bytes
function_lines s k zero = []
function_lines s k (suc left) = function_line (kind_of (next_seed s)) k ++ function_lines (next_seed s) (k + 1) left

abbrev pub call_of : ℕ → Bytes
call_of k = codes "f" ++ (decimal k ++ codes "();")

abbrev pub calls_from : ℕ → ℕ → Bytes
calls_from k zero = []
calls_from k (suc left) = call_of k ++ calls_from (k + 1) left

abbrev pub main_line : ℕ → Bytes
main_line count = codes "int main(void){" ++ (calls_from 0 count ++ codes "return 0;}\n")

-- the unit of a seed and a count
abbrev pub load_of : ℕ → ℕ → Bytes
load_of seed count = (codes "#include <stdio.h>\n" ++ function_lines seed 0 count) ++ main_line count
