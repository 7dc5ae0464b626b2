-- How errors are printed.
use Rattle.std.specs.Prelude.{ℕ, List, ◌++◌, codes, decimal}
use Rattle.fix_frame.specs.declared.write.FrameError.{FrameError}
use Rattle.fix_frame.specs.declared.write.FrameError.TheVariants.{TooLong, OutOfMemory}

-- the text of an error
abbrev pub text_of : FrameError → List ℕ
text_of (TooLong length) = codes "a frame of " ++ (decimal length ++ codes " bytes is too long")
text_of OutOfMemory = codes "out of memory"
