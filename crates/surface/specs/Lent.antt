-- A surface as the calls on it are given it. Definitions only. Assumes nothing.
use Rattle.std.specs.Prelude.{ℕ, List}
use Rattle.surface.specs.declared.held.Surface.{Surface}
use Rattle.surface.specs.File.{words_of}

-- the words that it is held as
abbrev pub words_in : Surface → List ℕ
words_in s = words_of s.bytes.now
