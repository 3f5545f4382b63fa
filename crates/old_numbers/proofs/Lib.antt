-- What rests on `old_number`: the frames and the findings of every sheet, and what is shipped.
pub mod Frames
pub mod Shipped
