-- What the contracts cite beside `classes` and paper's Classes.
pub mod Fields
pub mod Turns
