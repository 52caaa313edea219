-- The constants that roots are compared with. Definitions only. Assumes nothing.
use Rattle.std.specs.Prelude.{from_bits, Float}
use Rattle.std.specs.Float.{binary32}

-- 1e-6
abbrev pub micro : Float
micro = from_bits binary32 0x3586_37bd

-- 1e-3
abbrev pub milli : Float
milli = from_bits binary32 0x3a83_126f

-- 0.1
abbrev pub tenth : Float
tenth = from_bits binary32 0x3dcc_cccd
