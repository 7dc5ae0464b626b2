-- How errors are printed.
use Rattle.std.specs.Prelude.{ℕ, List, ◌++◌, codes, decimal}
use Rattle.fix_fields.specs.declared.error.FieldError.{FieldError}
use Rattle.fix_fields.specs.declared.error.FieldError.TheVariants.{NoEquals, BadTag, BadDataLength, NoEnd, EmptyValue, OutOfMemory}

-- what is printed for an error
abbrev pub error_text : FieldError → List ℕ
error_text (NoEquals at) = codes "no = in the field at " ++ decimal at
error_text (BadTag at) = codes "bad tag in the field at " ++ decimal at
error_text (BadDataLength at) = codes "bad data length in the field at " ++ decimal at
error_text (NoEnd at) = codes "no end of the field at " ++ decimal at
error_text (EmptyValue at) = codes "empty value in the field at " ++ decimal at
error_text OutOfMemory = codes "out of memory"
