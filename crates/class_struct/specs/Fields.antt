-- The struct's fields are private: this is what they hold.
use Rattle.paper.specs.Classes.{Classes, classes}
use Rattle.class_struct.specs.declared.Classes as D

abbrev pub of : D.Classes → Classes
of c = classes c.parents c.ranks c.count
