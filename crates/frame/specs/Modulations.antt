-- What each modulation fixes about the payload.
use Rattle.std.specs.Prelude.{ℕ, cond, ◌==◌, nat_lt, Ok, Err, Result}
use Rattle.frame.specs.declared.modulations.Modulation.{Modulation}
use Rattle.frame.specs.declared.modulations.Modulation.TheVariants.{Robust, Dbpsk, Dqpsk, D8psk}
use Rattle.frame.specs.declared.modulations.UnknownModulation.{UnknownModulation}

-- The modulation that MOD stands for: 0 robust, 1 DBPSK, 2 DQPSK, 3 D8PSK.
-- No number above 3 comes here: it is refused as out of range first.
abbrev pub modulation_of : ℕ → Modulation
modulation_of n = cond (n == 0) Robust (cond (n == 1) Dbpsk (cond (n == 2) Dqpsk D8psk))

-- The modulation that a number stands for, or else the number, which stands for none.
abbrev pub modulation_answer : ℕ → Result Modulation UnknownModulation
modulation_answer n = cond (nat_lt 3 n) (Err (record { 0 = n })) (Ok (modulation_of n))

-- b: the bits that one live cell carries.
abbrev pub bits_per_cell : Modulation → ℕ
bits_per_cell Robust = 1
bits_per_cell Dbpsk = 1
bits_per_cell Dqpsk = 2
bits_per_cell D8psk = 3

-- r: how many times each coded bit is sent.
abbrev pub copies : Modulation → ℕ
copies Robust = 4
copies Dbpsk = 1
copies Dqpsk = 1
copies D8psk = 1

-- T: half the number of parity bytes in a Reed-Solomon block.
abbrev pub correctable : Modulation → ℕ
correctable Robust = 4
correctable Dbpsk = 8
correctable Dqpsk = 8
correctable D8psk = 8
