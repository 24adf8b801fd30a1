-- What the first word of a place's code says of its head.
use Rattle.words.specs.declared.code_word.CodeWord.{CodeWord}
use Rattle.words.specs.declared.code_word.CodeWord.TheVariants.{Failed, Record}
use Rattle.paths.specs.declared.path.Head.{Head}
use Rattle.paths.specs.declared.path.Head.TheVariants.{Failed as NoRecord, Behaviour}

abbrev pub saying : Head → CodeWord
saying NoRecord = Failed
saying (Behaviour r) = Record r
